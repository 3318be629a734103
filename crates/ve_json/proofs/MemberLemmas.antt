-- The members of a bracket stand in the order of their names.
use lib.Utf8.{encode}
use Rattle.std.proofs.Common.{◌≡◌, ℕ, Bool, true, false, List, [], ◌∷◌, ◌++◌, codes, flat_map, nat_lt, Option, Some, None, option_map, Ordering, Less, Equal, Greater, refl, sym, ap, ◌∙◌, append_assoc, append-nil, encode_utf8_all}
use Rattle.std.specs.Ordering.{nat_cmp, match_ordering}
use Rattle.std.specs.Cmp.Lexicographic.{slice_cmp}
use Rattle.json.specs.Print.{quoted}
use Rattle.serde_json.specs.Data.{Data, string, object, Members, no_members, member, put}
use Rattle.serde_json.specs.Written.{compact_text, members_text}
use Rattle.ve_base.specs.declared.attrs.Attr.{Attr}
use Rattle.ve_base.specs.declared.marks.Mark.{Mark}
use Rattle.ve_base.specs.declared.head.Head.{Head}
use Rattle.ve_base.specs.declared.head.RefKey.{RefKey}
use Rattle.ve_kinds.specs.declared.kind.Kind.{Kind}
use Rattle.model_world.specs.Names.{kind_name}
use Rattle.model_world.specs.Shown.{with_text, with_attrs, with_marks, with_flag, with_origin, with_reference, opening_shown, closing_shown, json_text, json_number, key_shown}
use Rattle.ve_json.specs.ReplyMembers.{member_and_comma, comma_and_member, some_string, some_attrs, some_marks, some_flag, later_text, opening_json, closing_json}

-- ---- members in order

-- the name comes before all of the members' names
abbrev Before : List ℕ → Members → Type 0
Before name no_members = Unit {0}
Before name (member other value rest) = slice_cmp nat_cmp name other ≡ Less

abbrev with_option : List ℕ → Option Data → Members → Members
with_option name None members = members
with_option name (Some value) members = put name value members

put_first : (name : List ℕ) (value : Data) (ms : Members) → Before name ms → put name value ms ≡ member name value ms
put_first name value no_members b = refl
put_first name value (member other there rest) b =
    ap (λ o. match_ordering o (member name value (member other there rest)) (member other value rest) (member other there (put name value rest))) b

put_before : (k name : List ℕ) (value : Data) (ms : Members) → slice_cmp nat_cmp k name ≡ Less → Before k ms → Before k (put name value ms)
put_before k name value no_members less b = less
put_before k name value (member other there rest) less b = along (slice_cmp nat_cmp name other)
  where
    along : (o : Ordering) → Before k (match_ordering o (member name value (member other there rest)) (member other value rest) (member other there (put name value rest)))
    along Less = less
    along Equal = b
    along Greater = b

option_before : (k name : List ℕ) (o : Option Data) (ms : Members) → slice_cmp nat_cmp k name ≡ Less → Before k ms → Before k (with_option name o ms)
option_before k name None ms less b = b
option_before k name (Some value) ms less b = put_before k name value ms less b

-- a member that comes first after another
after_is : (name : List ℕ) (o : Option Data) (ms : Members) → Before name ms →
    members_text true (with_option name o ms) ≡ comma_and_member name o ++ members_text true ms
after_is name None ms b = refl
after_is name (Some value) ms b =
    ap (members_text true) (put_first name value ms b) ∙ ap (λ s. 44 ∷ s) (sym (append_assoc (quoted name) (58 ∷ compact_text value) (members_text true ms)))

-- members end in `}` alone, or the first of them has no comma before it where nothing stands before
abbrev HasSome : Members → Type 0
HasSome ms = members_text true ms ≡ 44 ∷ members_text false ms

option_some : (name : List ℕ) (o : Option Data) (ms : Members) → Before name ms → HasSome ms → HasSome (with_option name o ms)
option_some name None ms b some = some
option_some name (Some value) ms b some =
    let first = put_first name value ms b in
    ap (members_text true) first ∙ sym (ap (λ m. 44 ∷ members_text false m) first)

-- a member that comes first before another
before_is : (name : List ℕ) (o : Option Data) (ms : Members) → Before name ms → HasSome ms →
    members_text false (with_option name o ms) ≡ member_and_comma name o ++ members_text false ms
before_is name None ms b some = refl
before_is name (Some value) ms b some =
    let text = compact_text value in
    ap (members_text false) (put_first name value ms b)
    ∙ ap (λ s. quoted name ++ 58 ∷ (text ++ s)) some
    ∙ sym (append_assoc (quoted name) (58 ∷ text) (44 ∷ members_text false ms))
    ∙ sym (append_assoc (quoted name ++ 58 ∷ text) (44 ∷ []) (members_text false ms))

-- a later name is put past an earlier one
put_past : (later name : List ℕ) (value : Data) (o : Option Data) (ms : Members) → slice_cmp nat_cmp later name ≡ Greater → slice_cmp nat_cmp name later ≡ Less → Before name ms →
    put later value (with_option name o ms) ≡ with_option name o (put later value ms)
put_past later name value None ms greater less b = refl
put_past later name value (Some there) ms greater less b =
    ap (put later value) (put_first name there ms b)
    ∙ ap (λ o. match_ordering o (member later value (member name there ms)) (member name value ms) (member name there (put later value ms))) greater
    ∙ sym (put_first name there (put later value ms) (put_before name later value ms less b))

-- ---- members that stand where they are not empty

nonempty : (c : ℕ) (cs : List ℕ) → some_string (encode_utf8_all (c ∷ cs)) ≡ Some (string (encode_utf8_all (c ∷ cs)))
unfolding encode
nonempty c cs = by_size (nat_lt c 128) (nat_lt c 2048) (nat_lt c 65536) refl refl refl
  where
    by_size : (x y z : Bool) → nat_lt c 128 ≡ x → nat_lt c 2048 ≡ y → nat_lt c 65536 ≡ z → some_string (encode_utf8_all (c ∷ cs)) ≡ Some (string (encode_utf8_all (c ∷ cs)))
    by_size true y z e f g = rw e refl
    by_size false true z e f g = rw (e, f) refl
    by_size false false true e f g = rw (e, f, g) refl
    by_size false false false e f g = rw (e, f, g) refl

text_is : (name text : List ℕ) (ms : Members) → with_text name text ms ≡ with_option name (some_string (encode_utf8_all text)) ms
text_is name [] ms = refl
text_is name (c ∷ cs) ms = ap (λ o. with_option name o ms) (sym (nonempty c cs))

attrs_is : (attrs : List Attr) (ms : Members) → with_attrs attrs ms ≡ with_option (codes "attrs") (some_attrs attrs) ms
attrs_is [] ms = refl
attrs_is (a ∷ attrs) ms = refl

marks_is : (marks : List Mark) (ms : Members) → with_marks marks ms ≡ with_option (codes "marks") (some_marks marks) ms
marks_is [] ms = refl
marks_is (m ∷ marks) ms = refl

flag_is : (name : List ℕ) (flag : Bool) (ms : Members) → with_flag name flag ms ≡ with_option name (some_flag flag) ms
flag_is name false ms = refl
flag_is name true ms = refl

origin_is : (origin : Option ℕ) (ms : Members) → with_origin origin ms ≡ with_option (codes "origin") (option_map json_number origin) ms
origin_is None ms = refl
origin_is (Some k) ms = refl

reference_is : (key : Option RefKey) (ms : Members) → with_reference key ms ≡ with_option (codes "ref") (option_map key_shown key) ms
reference_is None ms = refl
reference_is (Some key) ms = refl

-- ---- several of them, each before the next

abbrev Optional : Type 0
Optional = List ℕ × Option Data

abbrev members_of : List Optional → Members → Members
members_of [] ms = ms
members_of (m ∷ later) ms = with_option m.0 m.1 (members_of later ms)

abbrev BeforeAll : List ℕ → List Optional → Type 0
BeforeAll name [] = Unit {0}
BeforeAll name (m ∷ later) = (slice_cmp nat_cmp name m.0 ≡ Less) × BeforeAll name later

-- each comes before the later ones, and before the members
abbrev Rise : List Optional → Members → Type 0
Rise [] ms = Unit {0}
Rise (m ∷ later) ms = BeforeAll m.0 later × Before m.0 ms × Rise later ms

all_before : (k : List ℕ) (several : List Optional) (ms : Members) → BeforeAll k several → Before k ms → Before k (members_of several ms)
all_before k [] ms all b = b
all_before k (m ∷ later) ms all b = option_before k m.0 m.1 (members_of later ms) all.0 (all_before k later ms all.1 b)

all_some : (several : List Optional) (ms : Members) → Rise several ms → HasSome ms → HasSome (members_of several ms)
all_some [] ms rise some = some
all_some (m ∷ later) ms rise some =
    option_some m.0 m.1 (members_of later ms) (all_before m.0 later ms rise.0 rise.1) (all_some later ms rise.2 some)

abbrev after_all : List Optional → List ℕ
after_all several = flat_map (λ (m : Optional). comma_and_member m.0 m.1) several

all_after : (several : List Optional) → Rise several no_members → members_text true (members_of several no_members) ≡ after_all several ++ 125 ∷ []
all_after [] rise = refl
all_after (m ∷ later) rise =
    after_is m.0 m.1 (members_of later no_members) (all_before m.0 later no_members rise.0 tt)
    ∙ ap (λ s. comma_and_member m.0 m.1 ++ s) (all_after later rise.2)
    ∙ sym (append_assoc (comma_and_member m.0 m.1) (after_all later) (125 ∷ []))

abbrev before_each : List Optional → List ℕ
before_each several = flat_map (λ (m : Optional). member_and_comma m.0 m.1) several

each_before : (several : List Optional) (ms : Members) → Rise several ms → HasSome ms → members_text false (members_of several ms) ≡ before_each several ++ members_text false ms
each_before [] ms rise some = refl
each_before (m ∷ later) ms rise some =
    before_is m.0 m.1 (members_of later ms) (all_before m.0 later ms rise.0 rise.1) (all_some later ms rise.2 some)
    ∙ ap (λ s. member_and_comma m.0 m.1 ++ s) (each_before later ms rise.2 some)
    ∙ sym (append_assoc (member_and_comma m.0 m.1) (before_each later) (members_text false ms))

abbrev IsAfterAll : List ℕ → List Optional → Type 0
IsAfterAll name [] = Unit {0}
IsAfterAll name (m ∷ later) = (slice_cmp nat_cmp name m.0 ≡ Greater) × (slice_cmp nat_cmp m.0 name ≡ Less) × IsAfterAll name later

past_all : (name : List ℕ) (value : Data) (several : List Optional) (ms : Members) → IsAfterAll name several → Rise several ms →
    put name value (members_of several ms) ≡ members_of several (put name value ms)
past_all name value [] ms past rise = refl
past_all name value (m ∷ later) ms past rise =
    put_past name m.0 value m.1 (members_of later ms) past.0 past.1 (all_before m.0 later ms rise.0 rise.1)
    ∙ ap (with_option m.0 m.1) (past_all name value later ms past.2 rise.2)

rise_put : (name : List ℕ) (value : Data) (several : List Optional) (ms : Members) → IsAfterAll name several → Rise several ms → Rise several (put name value ms)
rise_put name value [] ms past rise = tt
rise_put name value (m ∷ later) ms past rise = (rise.0, put_before m.0 name value ms past.1 rise.1, rise_put name value later ms past.2 rise.2)

-- ---- an opening and a closing

three_then : (a b c d : List ℕ) → (a ++ (b ++ (c ++ []))) ++ d ≡ a ++ (b ++ (c ++ d))
three_then a b c d =
    append_assoc a (b ++ (c ++ [])) d
    ∙ ap (λ s. a ++ s) (append_assoc b (c ++ []) d ∙ ap (λ s. b ++ s) (append_assoc c [] d))

abbrev early : List Attr → List Mark → Bool → List Optional
early attrs marks generated = (codes "attrs", some_attrs attrs) ∷ (codes "gen", some_flag generated) ∷ (codes "marks", some_marks marks) ∷ []

abbrev late : Head → List ℕ → Option ℕ → List Optional
late head pre origin =
    (codes "origin", option_map json_number origin)
    ∷ (codes "owner", some_flag head.owner)
    ∷ (codes "pre", some_string pre)
    ∷ (codes "raw", some_string (encode_utf8_all head.raw))
    ∷ (codes "ref", option_map key_shown head.reference)
    ∷ (codes "tag", some_string (encode_utf8_all head.tag))
    ∷ []

late_rises : (head : Head) (pre : List ℕ) (origin : Option ℕ) → Rise (late head pre origin) no_members
late_rises head pre origin =
    ((refl, (refl, (refl, (refl, (refl, tt))))), tt, ((refl, (refl, (refl, (refl, tt)))), tt, ((refl, (refl, (refl, tt))), tt, ((refl, (refl, tt)), tt, ((refl, tt), tt, (tt, tt, tt))))))

late_text : (head : Head) (pre : List ℕ) (origin : Option ℕ) → after_all (late head pre origin) ≡ later_text head pre origin
late_text head pre origin = ap
    (λ s. comma_and_member (codes "origin") (option_map json_number origin)
    ++ (comma_and_member (codes "owner") (some_flag head.owner)
    ++ (comma_and_member (codes "pre") (some_string pre)
    ++ (comma_and_member (codes "raw") (some_string (encode_utf8_all head.raw)) ++ (comma_and_member (codes "ref") (option_map key_shown head.reference) ++ s)))))
    (append-nil (comma_and_member (codes "tag") (some_string (encode_utf8_all head.tag))))

members_are : (kind : Kind) (head : Head) (marks : List Mark) (pre : List ℕ) (origin : Option ℕ) (generated : Bool) →
    opening_shown kind head marks pre origin generated
    ≡ put (codes "open") (json_text (kind_name kind)) (members_of (early head.attrs marks generated) (members_of (late head (encode_utf8_all pre) origin) no_members))
members_are kind head marks pre origin generated = ap (put (codes "open") (json_text (kind_name kind)))
    (attrs_is head.attrs _
    ∙ ap (with_option (codes "attrs") (some_attrs head.attrs))
    (flag_is (codes "gen") generated _
    ∙ ap (with_option (codes "gen") (some_flag generated))
    (marks_is marks _
    ∙ ap (with_option (codes "marks") (some_marks marks))
    (origin_is origin _
    ∙ ap (with_option (codes "origin") (option_map json_number origin))
    (flag_is (codes "owner") head.owner _
    ∙ ap (with_option (codes "owner") (some_flag head.owner))
    (text_is (codes "pre") pre _
    ∙ ap (with_option (codes "pre") (some_string (encode_utf8_all pre)))
    (text_is (codes "raw") head.raw _
    ∙ ap (with_option (codes "raw") (some_string (encode_utf8_all head.raw)))
    (reference_is head.reference _
    ∙ ap (with_option (codes "ref") (option_map key_shown head.reference)) (text_is (codes "tag") head.tag no_members)))))))))

pub opening_is : (kind : Kind) (head : Head) (marks : List Mark) (pre : List ℕ) (origin : Option ℕ) (generated : Bool) →
    compact_text (object (opening_shown kind head marks pre origin generated)) ≡ opening_json kind head marks (encode_utf8_all pre) origin generated
opening_is kind head marks pre origin generated =
    let bytes = encode_utf8_all pre in
    let value = json_text (kind_name kind) in
    let rest = members_of (late head bytes origin) no_members in
    let first = early head.attrs marks generated in
    let later = late head bytes origin in
    let past : IsAfterAll (codes "open") first = (refl, refl, (refl, refl, (refl, refl, tt))) in
    let over : (k : List ℕ) → BeforeAll k later → Before k rest = λ k all. all_before k later no_members all tt in
    let rise : Rise first rest =
    ((refl, (refl, tt)), over (codes "attrs") (refl, (refl, (refl, (refl, (refl, (refl, tt)))))), ((refl, tt), over (codes "gen") (refl, (refl, (refl, (refl, (refl, (refl, tt)))))), (tt, over (codes "marks") (refl, (refl, (refl, (refl, (refl, (refl, tt)))))), tt))) in
    let opened = put_first (codes "open") value rest (over (codes "open") (refl, (refl, (refl, (refl, (refl, (refl, tt))))))) in
    let some : HasSome (put (codes "open") value rest) = ap (members_text true) opened ∙ sym (ap (λ m. 44 ∷ members_text false m) opened) in
    ap (λ m. 123 ∷ members_text false m) (members_are kind head marks pre origin generated ∙ past_all (codes "open") value first rest past rise)
    ∙ ap (λ s. 123 ∷ s) (each_before first (put (codes "open") value rest) (rise_put (codes "open") value first rest past rise) some)
    ∙ ap (λ s. 123 ∷ before_each first ++ s)
    (ap (members_text false) opened
    ∙ ap (λ s. quoted (codes "open") ++ 58 ∷ (compact_text value ++ s)) (all_after later (late_rises head bytes origin) ∙ ap (λ s. s ++ 125 ∷ []) (late_text head bytes origin))
    ∙ sym (append_assoc (quoted (codes "open")) (58 ∷ compact_text value) (later_text head bytes origin ++ 125 ∷ [])))
    ∙ ap (λ s. 123 ∷ s) (three_then (member_and_comma (codes "attrs") (some_attrs head.attrs)) (member_and_comma (codes "gen") (some_flag generated)) (member_and_comma (codes "marks") (some_marks marks)) _)

pub closing_is : (kind : Kind) (pre : List ℕ) → compact_text (object (closing_shown kind pre)) ≡ closing_json kind (encode_utf8_all pre)
closing_is kind pre =
    let bytes = encode_utf8_all pre in
    let value = json_text (kind_name kind) in
    let later : List Optional = (codes "pre", some_string bytes) ∷ [] in
    let rest = members_of later no_members in
    ap (λ m. 123 ∷ members_text false m) (ap (put (codes "close") value) (text_is (codes "pre") pre no_members) ∙ put_first (codes "close") value rest (all_before (codes "close") later no_members (refl, tt) tt))
    ∙ ap (λ s. 123 ∷ quoted (codes "close") ++ 58 ∷ (compact_text value ++ s)) (all_after later (tt, tt, tt) ∙ ap (λ s. s ++ 125 ∷ []) (append-nil (comma_and_member (codes "pre") (some_string bytes))))
    ∙ ap (λ s. 123 ∷ s) (sym (append_assoc (quoted (codes "close")) (58 ∷ compact_text value) (comma_and_member (codes "pre") (some_string bytes) ++ 125 ∷ [])))

-- the pieces of an opening, one after the other
pub five_pieces : (s a g m k l : List ℕ) → ((((((s ++ 123 ∷ []) ++ a) ++ g) ++ m) ++ k) ++ l) ++ 125 ∷ [] ≡ s ++ 123 ∷ (a ++ (g ++ (m ++ (k ++ (l ++ 125 ∷ [])))))
five_pieces s a g m k l =
    append_assoc (((((s ++ 123 ∷ []) ++ a) ++ g) ++ m) ++ k) l (125 ∷ [])
    ∙ append_assoc ((((s ++ 123 ∷ []) ++ a) ++ g) ++ m) k (l ++ 125 ∷ [])
    ∙ append_assoc (((s ++ 123 ∷ []) ++ a) ++ g) m (k ++ (l ++ 125 ∷ []))
    ∙ append_assoc ((s ++ 123 ∷ []) ++ a) g (m ++ (k ++ (l ++ 125 ∷ [])))
    ∙ append_assoc (s ++ 123 ∷ []) a (g ++ (m ++ (k ++ (l ++ 125 ∷ []))))
    ∙ append_assoc s (123 ∷ []) (a ++ (g ++ (m ++ (k ++ (l ++ 125 ∷ [])))))
