-- Members that are put in or taken out: what they are, and that they bring no float.
use Rattle.std.proofs.Common.{◌≡◌, ℕ, Bool, true, false, ◌||◌, Ordering, Less, Equal, Greater, List, [], ◌∷◌, Option, Some, None, refl, ◌∙◌, true≢false}
use Rattle.std.specs.Prelude.{bytes_eq, string_bytes, codes, cond, if◌then◌else◌}
use Rattle.std.specs.Ordering.{nat_cmp, match_ordering, is_eq}
use Rattle.std.specs.Cmp.Lexicographic.{slice_cmp}
use Rattle.std.specs.Map.{remove_entry}
use Rattle.std.specs.BTreeMap.{is_at}
use Rattle.std.proofs.lemmas.Cmp.{nat_list_cmp_total, tied_itself}
use Rattle.std.proofs.lemmas.Map.Text.{is_eq-slice_cmp}
use Rattle.serde_json.specs.Data.{Data, string, object, Members, no_members, member, put}
use Rattle.serde_json.specs.Find.{get_member}
use Rattle.serde_json.specs.View.{members_view}
use Rattle.serde_json.specs.Written.{has_float, members_have_float}
use Rattle.serde_json.proofs.Views.{Entry}
use Rattle.model_page.specs.DataMw.{members_of, without, with_body}

members_view-if : (b : Bool) (x y : List Entry) → members_view (cond b x y) ≡ (if b then members_view x else members_view y)
members_view-if true x y = refl
members_view-if false x y = refl

pub view-without : (name : List ℕ) (es : List Entry) → members_view (remove_entry (is_at (λ k. slice_cmp nat_cmp name (string_bytes k))) es) ≡ without name (members_view es)
view-without name [] = refl
view-without name (e ∷ es) = members_view-if (is_eq (slice_cmp nat_cmp name (string_bytes e.0))) es _ ∙ rw (is_eq-slice_cmp name (string_bytes e.0), view-without name es) refl

-- ---- a member that is put twice

put_again_at : (o : Ordering) (k l : List ℕ) (d e f : Data) (ms : Members) → slice_cmp nat_cmp k l ≡ o → put k d (put k e ms) ≡ put k d ms
    → put k d (match_ordering o (member k e (member l f ms)) (member l e ms) (member l f (put k e ms)))
    ≡ match_ordering o (member k d (member l f ms)) (member l d ms) (member l f (put k d ms))
put_again_at Less k l d e f ms is later = rw (tied_itself nat_list_cmp_total k) refl
put_again_at Equal k l d e f ms is later = rw is refl
put_again_at Greater k l d e f ms is later = rw (is, later) refl

-- the second stands
pub put_again : (k : List ℕ) (d e : Data) (ms : Members) → put k d (put k e ms) ≡ put k d ms
put_again k d e no_members = rw (tied_itself nat_list_cmp_total k) refl
put_again k d e (member l f ms) = put_again_at _ k l d e f ms refl (put_again k d e ms)

-- ---- floats

neither : (a b : Bool) → a ≡ false → b ≡ false → (a || b) ≡ false
neither a b x y = rw (x, y) refl

left_of : (a b : Bool) → (a || b) ≡ false → a ≡ false
left_of true b e = absurd (true≢false e)
left_of false b e = refl

right_of : (a b : Bool) → (a || b) ≡ false → b ≡ false
right_of true b e = absurd (true≢false e)
right_of false b e = e

pub float-put_at : (o : Ordering) (k l : List ℕ) (d e : Data) (ms : Members) → has_float d ≡ false → members_have_float (member l e ms) ≡ false
    → members_have_float (put k d ms) ≡ false
    → members_have_float (match_ordering o (member k d (member l e ms)) (member l d ms) (member l e (put k d ms))) ≡ false
float-put_at Less k l d e ms x y later = neither (has_float d) _ x y
float-put_at Equal k l d e ms x y later = neither (has_float d) _ x (right_of (has_float e) _ y)
float-put_at Greater k l d e ms x y later = neither (has_float e) _ (left_of (has_float e) _ y) later

pub float-put : (k : List ℕ) (d : Data) (ms : Members) → has_float d ≡ false → members_have_float ms ≡ false → members_have_float (put k d ms) ≡ false
float-put k d no_members x y = neither (has_float d) false x refl
float-put k d (member l e ms) x y = float-put_at (slice_cmp nat_cmp k l) k l d e ms x y (float-put k d ms x (right_of (has_float e) _ y))

float-without_at : (b : Bool) (l : List ℕ) (e : Data) (ms less : Members) → members_have_float (member l e ms) ≡ false → members_have_float less ≡ false
    → members_have_float (if b then ms else member l e less) ≡ false
float-without_at true l e ms less y later = right_of (has_float e) _ y
float-without_at false l e ms less y later = neither (has_float e) _ (left_of (has_float e) _ y) later

pub float-without : (k : List ℕ) (ms : Members) → members_have_float ms ≡ false → members_have_float (without k ms) ≡ false
float-without k no_members y = refl
float-without k (member l e ms) y = float-without_at (bytes_eq k l) l e ms (without k ms) y (float-without k ms (right_of (has_float e) _ y))

float-get_at : (o : Ordering) (e : Data) (r : Option Data) → has_float e ≡ false → members_have_float (members_of r) ≡ false
    → members_have_float (members_of (match_ordering o r (Some e) r)) ≡ false
float-get_at Less e r x later = later
float-get_at Equal (object ms) r x later = x
float-get_at Equal _ r x later = refl
float-get_at Greater e r x later = later

pub float-get : (k : List ℕ) (ms : Members) → members_have_float ms ≡ false → members_have_float (members_of (get_member k ms)) ≡ false
float-get k no_members y = refl
float-get k (member l e ms) y = float-get_at (slice_cmp nat_cmp k l) e _ (left_of (has_float e) _ y) (float-get k ms (right_of (has_float e) _ y))

pub float-with_body : (html : Option (List ℕ)) (ms : Members) → members_have_float ms ≡ false → members_have_float (with_body html ms) ≡ false
float-with_body None ms y = float-without (codes "body") ms y
float-with_body (Some html) ms y =
    float-put (codes "body") (object (put (codes "html") (string html) (members_of (get_member (codes "body") ms)))) ms
    (float-put (codes "html") (string html) (members_of (get_member (codes "body") ms)) refl (float-get (codes "body") ms y)) y
