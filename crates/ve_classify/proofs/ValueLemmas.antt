-- The value of a name among the attributes of a tag.
use Rattle.std.proofs.Common.{◌≡◌, ℕ, Bool, true, false, List, [], ◌∷◌, Option, Some, None, refl, sym, ap, ◌∙◌, subst, option_map, Bor}
use Rattle.std.specs.Prelude.{bytes_eq, codes, is_some}
use Rattle.std.specs.List.{list_any}
use Rattle.model_spelling.specs.Grammar as g
use Rattle.model_spelling.specs.Written.{decoded}
use Rattle.std.specs.Prelude.{◌||◌}
use Rattle.model_spelling.specs.Grammar.{begins_with}
use Rattle.model_page.specs.Elements.{value_named, words_in, words_of, has_type, about_of, is_held}
use Rattle.ve_html_scan.specs.declared.attr_tokens.AttrToken.{AttrToken}
use Rattle.ve_html_scan.specs.declared.attr_tokens.AttrTokens.{AttrTokens}
use Rattle.ve_html_scan.specs.Shown.{ShowsToken, ShowsAttrs, AttrsStep}
use Rattle.ve_html_scan.specs.declared.token.Span.{Span}
use Rattle.ve_html_scan.specs.declared.token.Token.{Token}
use Rattle.ve_html_scan.specs.declared.token.Token.TheVariants as lent
use Rattle.ve_classify.specs.Groups.{token_about}
use Rattle.ve_classify.specs.Values.{spelled_value}

-- attributes still to come, among which the name is to be looked up
pub record Left (now : AttrTokens) (name : List ℕ) (slash : Bool) (value : Option (List ℕ)) : Type 0 where
  pub list : List g.Attr
  pub shows : ShowsAttrs now list slash
  pub same : value ≡ spelled_value name list

abbrev pub LeftOf : AttrTokens → AttrTokens → List ℕ → Type 0
LeftOf whole now name = (list : List g.Attr) (slash : Bool) → ShowsAttrs whole list slash → Left now name slash (spelled_value name list)

pub all_left : (whole : AttrTokens) (name : List ℕ) → LeftOf whole whole name
all_left whole name = λ list slash s. record { list = list; shows = s; same = refl }

value_by : (name : List ℕ) (a : g.Attr) (attrs : List g.Attr) (b : Bool) → bytes_eq a.name name ≡ b → value_named name attrs ≡ option_map decoded (spelled_value name attrs) → value_named name (a ∷ attrs) ≡ option_map decoded (spelled_value name (a ∷ attrs))
value_by name a attrs true e rec = rw e refl
value_by name a attrs false e rec = rw e rec

pub value_is : (name : List ℕ) (attrs : List g.Attr) → value_named name attrs ≡ option_map decoded (spelled_value name attrs)
value_is name [] = refl
value_is name (a ∷ attrs) = value_by name a attrs (bytes_eq a.name name) refl (value_is name attrs)

-- ---- the loop

found_by : (before after : AttrTokens) (attr : AttrToken) (name : List ℕ) (list : List g.Attr) (slash : Bool) (value : Option (List ℕ)) → ShowsAttrs before list slash → AttrsStep before (Some attr) after → value ≡ spelled_value name list → bytes_eq attr.name.now name ≡ true → Some attr.value.now ≡ value
found_by before after attr name [] slash value s step e same = let h : true ≡ false = (step [] slash s).0 in absurd cc
found_by before after attr name (a ∷ list) slash value s step e same =
    let t = (step (a ∷ list) slash s).0 in
    let b : bytes_eq a.name name ≡ true = ap (λ (n : List ℕ). bytes_eq n name) (sym t.name) ∙ same in
    let v : spelled_value name (a ∷ list) ≡ Some a.value = rw b refl in
    ap (λ (x : List ℕ). Some x) t.value ∙ sym v ∙ sym e

pub found : (whole before after : AttrTokens) (attr : AttrToken) (name : List ℕ) → LeftOf whole before name → AttrsStep before (Some attr) after → bytes_eq attr.name.now name ≡ true →
    (list : List g.Attr) (slash : Bool) → ShowsAttrs whole list slash → Some attr.value.now ≡ spelled_value name list
found whole before after attr name left step same list slash s =
    let l = left list slash s in found_by before after attr name l.list slash (spelled_value name list) l.shows step l.same same

more_by : (before after : AttrTokens) (attr : AttrToken) (name : List ℕ) (list : List g.Attr) (slash : Bool) (value : Option (List ℕ)) → ShowsAttrs before list slash → AttrsStep before (Some attr) after → value ≡ spelled_value name list → bytes_eq attr.name.now name ≡ false → Left after name slash value
more_by before after attr name [] slash value s step e other = let h : true ≡ false = (step [] slash s).0 in absurd cc
more_by before after attr name (a ∷ list) slash value s step e other =
    let t = step (a ∷ list) slash s in
    let b : bytes_eq a.name name ≡ false = ap (λ (n : List ℕ). bytes_eq n name) (sym t.0.name) ∙ other in
    let v : spelled_value name (a ∷ list) ≡ spelled_value name list = rw b refl in
    record { list = list; shows = t.1; same = e ∙ v }

pub more : (whole before after : AttrTokens) (attr : AttrToken) (name : List ℕ) → LeftOf whole before name → AttrsStep before (Some attr) after → bytes_eq attr.name.now name ≡ false → LeftOf whole after name
more whole before after attr name left step other = λ list slash s.
    let l = left list slash s in more_by before after attr name l.list slash (spelled_value name list) l.shows step l.same other

none_by : (before after : AttrTokens) (name : List ℕ) (list : List g.Attr) (slash : Bool) (value : Option (List ℕ)) → ShowsAttrs before list slash → AttrsStep before None after → value ≡ spelled_value name list → None ≡ value
none_by before after name [] slash value s step e = sym e
none_by before after name (a ∷ list) slash value s step e = absurd (step (a ∷ list) slash s).0

pub none_found : (whole before after : AttrTokens) (name : List ℕ) → LeftOf whole before name → AttrsStep before None after → (list : List g.Attr) (slash : Bool) → ShowsAttrs whole list slash → None ≡ spelled_value name list
none_found whole before after name left step list slash s =
    let l = left list slash s in none_by before after name l.list slash (spelled_value name list) l.shows step l.same

-- ---- `about`

decoded_of : (r : Option (Bor (List ℕ))) → option_map (λ v. decoded v.now) r ≡ option_map decoded (option_map (λ v. v.now) r)
decoded_of None = refl
decoded_of (Some v) = refl

pub about_shown : (t : Token) (name : Bor (List ℕ)) (attrs : AttrTokens) (span : Span) (k : g.Token) (r : Option (Bor (List ℕ))) → t ≡ lent.StartTag name attrs span → ShowsToken t k →
    ((list : List g.Attr) (slash : Bool) → ShowsAttrs attrs list slash → option_map (λ v. v.now) r ≡ spelled_value (codes "about") list) → option_map (λ v. decoded v.now) r ≡ token_about k
about_shown t name attrs span (g.Start n list slash) r e s h =
    let shown : ShowsToken (lent.StartTag name attrs span) (g.Start n list slash) = subst (λ (x : Token). ShowsToken x (g.Start n list slash)) e s in
    decoded_of r ∙ ap (option_map decoded) (h list slash shown.1) ∙ sym (value_is (codes "about") list)
about_shown t name attrs span (g.End n) r e s h = absurd (subst (λ (x : Token). ShowsToken x (g.End n)) e s)
about_shown t name attrs span (g.Chars n) r e s h = absurd (subst (λ (x : Token). ShowsToken x (g.Chars n)) e s)
about_shown t name attrs span (g.Raw n) r e s h = absurd (subst (λ (x : Token). ShowsToken x (g.Raw n)) e s)
about_shown t name attrs span (g.Comment n) r e s h = absurd (subst (λ (x : Token). ShowsToken x (g.Comment n)) e s)

-- ---- `typeof`, and what is held

pub type_some : (test : List ℕ → Bool) (list : List g.Attr) (value : List ℕ) (b : Bool) → Some value ≡ spelled_value (codes "typeof") list → b ≡ list_any test (words_of (decoded value)) → b ≡ has_type test list
type_some test list value b e h =
    let v : value_named (codes "typeof") list ≡ Some (decoded value) = value_is (codes "typeof") list ∙ sym (ap (option_map decoded) e) in
    h ∙ sym (ap (λ o. list_any test (words_in o)) v)

pub type_none : (test : List ℕ → Bool) (list : List g.Attr) → None ≡ spelled_value (codes "typeof") list → false ≡ has_type test list
type_none test list e =
    let v : value_named (codes "typeof") list ≡ None = value_is (codes "typeof") list ∙ sym (ap (option_map decoded) e) in
    sym (ap (λ o. list_any test (words_in o)) v)

some_now : (r : Option (Bor (List ℕ))) → is_some (option_map decoded (option_map (λ v. v.now) r)) ≡ is_some r
some_now None = refl
some_now (Some v) = refl

about_some : (r : Option (Bor (List ℕ))) (list : List g.Attr) → option_map (λ v. v.now) r ≡ spelled_value (codes "about") list → is_some (about_of list) ≡ is_some r
about_some r list e = ap is_some (value_is (codes "about") list) ∙ ap (λ o. is_some (option_map decoded o)) (sym e) ∙ some_now r

pub held_about : (r : Option (Bor (List ℕ))) (list : List g.Attr) (b : Bool) → option_map (λ v. v.now) r ≡ spelled_value (codes "about") list → b ≡ is_some r → b ≡ true → b ≡ is_held list
held_about r list b e h t =
    let some : is_some (about_of list) ≡ true = about_some r list e ∙ sym h ∙ t in
    t ∙ sym (ap (λ x. x || has_type (begins_with (codes "mw:")) list) some)

pub held_typed : (r : Option (Bor (List ℕ))) (list : List g.Attr) (b t : Bool) → option_map (λ v. v.now) r ≡ spelled_value (codes "about") list → b ≡ is_some r → b ≡ false → t ≡ has_type (begins_with (codes "mw:")) list → t ≡ is_held list
held_typed r list b t e h f typed =
    let none : is_some (about_of list) ≡ false = about_some r list e ∙ sym h ∙ f in
    typed ∙ sym (ap (λ x. x || has_type (begins_with (codes "mw:")) list) none)
