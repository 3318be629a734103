-- Fresh text is no whole document, so it opens as what a forest of it is converted to.
use Rattle.std.proofs.Common.{◌≡◌, ℕ, ◌-◌, ◌<◌, Bool, true, false, cond, ◌==◌, List, [], ◌∷◌, length, map, Option, Some, None, Result, Ok, refl, sym, ap, ◌∙◌, arith, eqb-true}
use Rattle.std.specs.Prelude.{nat_eq, unwrap_or}
use Rattle.std.specs.Char.{to_ascii_lowercase}
use Rattle.std.proofs.lemmas.List.{append-nil, take_all}
use Rattle.std.proofs.lemmas.Bool.{and_parts}
use Rattle.model_spelling.specs.declared.scan_fault.ScanFault.{ScanFault}
use Rattle.model_spelling.specs.Forest.{Forest, Nothing, Text, Remark, Void, RawElement, Element, spelling, is_forest}
use Rattle.model_spelling.specs.Parsed.{forest_of}
use Rattle.model_spelling.specs.Page.{is_whole, body_at}
use Rattle.model_spelling.proofs.Proved.{law_reads_right}
use Rattle.model_page.specs.PageItems.{slice, Opened, page_opened, opened_forest, opened_body, items_of_page, page_made}
use Rattle.model_page_write.specs.PageText.{fresh}
use Rattle.model_page_law.specs.ReadBack.{without_origin, FreshOpensAsItself}
use Rattle.model_page_law.proofs.NeatForests.{Neat}
use Rattle.model_page_law.proofs.OneLemmas.{class, code, class-neat}
use Rattle.model_page_law.proofs.ReadLemmas.{fresh_is_spelled}
use Rattle.model_page_law.proofs.FormLemmas.{such_list, fresh_is_read_back}

-- ---- a whole document begins with `<!`, and then with no `-`

lower-is : (b n : ℕ) → n < 65 → to_ascii_lowercase b ≡ n → b ≡ n
lower-is b n small h = grind arith

whole-class : (text : List ℕ) → is_whole text ≡ true → class text ≡ 2
whole-class [] h = cc
whole-class (b ∷ []) h = let p = and_parts (nat_eq (to_ascii_lowercase b) 60) _ h in let f : false ≡ true = p.1 in cc
whole-class (b ∷ c ∷ bs) h =
    let p = and_parts (nat_eq (to_ascii_lowercase b) 60) _ h in
    let q = and_parts (nat_eq (to_ascii_lowercase c) 33) _ p.1 in
    let first : b ≡ 60 = lower-is b 60 (omega arith) (eqb-true (to_ascii_lowercase b) 60 p.0) in
    let second : c ≡ 33 = lower-is c 33 (omega arith) (eqb-true (to_ascii_lowercase c) 33 q.0) in
    (λ i. class (first i ∷ second i ∷ bs))

not_two : (n : ℕ) (c : Bool) → (n == 2) ≡ false → (c ≡ true → n ≡ 2) → c ≡ false
not_two n true e h = let f : true ≡ false = sym (ap (λ k. k == 2) (h refl)) ∙ e in cc
not_two n false e h = refl

neat-class : (g : Forest) → Neat g → class (spelling g) ≡ code g
neat-class g n = ap class (sym (append-nil (spelling g))) ∙ class-neat g [] n refl

pub not_whole : (g : Forest) → Neat g → is_whole (spelling g) ≡ false
not_whole Nothing n = refl
not_whole (Text text rest) n = not_two 1 _ refl (λ h. sym (neat-class (Text text rest) n) ∙ whole-class (spelling (Text text rest)) h)
not_whole (Remark text rest) n = refl
not_whole (Void name attrs slash rest) n = not_two 3 _ refl (λ h. sym (neat-class (Void name attrs slash rest) n) ∙ whole-class (spelling (Void name attrs slash rest)) h)
not_whole (RawElement name attrs text rest) n = not_two 3 _ refl (λ h. sym (neat-class (RawElement name attrs text rest) n) ∙ whole-class (spelling (RawElement name attrs text rest)) h)
not_whole (Element name attrs children rest) n = not_two 3 _ refl (λ h. sym (neat-class (Element name attrs children rest) n) ∙ whole-class (spelling (Element name attrs children rest)) h)

-- ---- the page of a fresh text

abbrev All : List ℕ → Result (ℕ × ℕ) ScanFault
All page = Ok (0, length page)

body-by : (page : List ℕ) (c : Bool) (other : Result (ℕ × ℕ) ScanFault) → c ≡ false → cond c other (All page) ≡ All page
body-by page true other e = cc
body-by page false other e = refl

body-all : (page : List ℕ) → is_whole page ≡ false → body_at page ≡ All page
unfolding body_at
body-all page e = body-by page (is_whole page) _ e

slice-all : (page : List ℕ) → slice page 0 (length page) ≡ page
slice-all page = take_all (length page - 0) page (omega arith)

opened_as_read : (page : List ℕ) (read : Option Forest) → forest_of page ≡ read → (o : Opened) → opened_forest page (record { from = 0; to = length page }) read ≡ Some o →
    (f : Forest) × (spelling f ≡ page) × (is_forest 200 f ≡ true) × (o.items ≡ items_of_page (page_made 0 f))
opened_as_read page None e o h = cc
opened_as_read page (Some f) e o h =
    let s = law_reads_right page f e in
    let first : Opened = page_opened page (record { from = 0; to = length page }) (page_made 0 f) in
    let is : first ≡ o = let p : ◌≡◌ {A = Option Opened} (Some first) (Some o) = h in ap (λ x. unwrap_or x first) p in
    (f, s.0, s.1, ap (λ x. x.items) (sym is))

pub fresh_opens_as_itself : FreshOpensAsItself
fresh_opens_as_itself items lawful formed o h =
    let page : List ℕ = fresh items in
    let s = fresh_is_spelled items (such_list items lawful formed) in
    let whole : is_whole page ≡ false = ap is_whole (sym s.spells) ∙ not_whole s.forest s.neat in
    let opens : opened_forest page (record { from = 0; to = length page }) (forest_of page) ≡ Some o =
    ap (λ text. opened_forest page (record { from = 0; to = length page }) (forest_of text)) (sym (slice-all page))
    ∙ sym (ap (opened_body page) (body-all page whole))
    ∙ h in
    let r = opened_as_read page (forest_of page) refl o opens in
    ap (map without_origin) r.3 ∙ fresh_is_read_back items lawful formed r.0 0 r.2 r.1
