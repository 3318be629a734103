-- Reading on, token by token: what is left to read, what was made, and the first fault.
use Rattle.ve_html_tree.specs.Nodes.{HasText}
use Rattle.model_spelling.proofs.FoundTokens.{VerbatimFound, verbatim_parts}
use Rattle.std.proofs.Common.{take}
use Rattle.std.proofs.Common.{◌≡◌, ℕ, zero, suc, ◌+◌, ◌-◌, ◌<◌, ◌≤◌, Bool, true, false, cond, List, [], ◌∷◌, length, take, drop, map, Option, Some, None, Result, Ok, Err, refl, sym, ap, ◌∙◌, subst, arith}
use Rattle.std.specs.Prelude.{◌==◌}
use Rattle.std.proofs.lemmas.List.{drop-drop, length-append}
use Rattle.model_spelling.specs.declared.scan_fault.ScanFault.{ScanFault}
use Rattle.model_spelling.specs.declared.scan_fault.ScanWhat.TheVariants.{UnclosedRaw}
use Rattle.model_spelling.specs.Grammar as g
use Rattle.model_spelling.specs.Reading.{fault, Mode, Between, After, Failed, mode_after, token_at, between_at, verbatim_end}
use Rattle.model_spelling.specs.Tokens.{Placed, Tokens, with_placed, tokens_by, tokens_from, tokens_of}
use Rattle.model_spelling.specs.Forest.{Forest, Spells}
use Rattle.model_spelling.specs.ForestNodes.{ForestNode, forest_nodes}
use Rattle.model_spelling.specs.Faults.{OpenElement, ForestFault, Scan, Mismatched, Unclosed, Stray, TooDeep, fault_at_end, after_token, or_fault, fault_in, fault_of}
use Rattle.model_spelling.proofs.Proved.{law_found}
use Rattle.model_spelling.proofs.Back.{tokens_read}
use Rattle.model_spelling.proofs.ForestLaws.{tokens_in}
use Rattle.model_spelling.proofs.Found.{not_ok}
use Rattle.model_spelling.proofs.FoundTokens.{token_found, between_found, raw_fails}
use Rattle.model_spelling.proofs.TokenRuns.{same_step}
use Rattle.ve_html_scan.specs.Shown.{ScannerState, next_of, scanner_after, token_span, IsFound, ShowsToken}
use Rattle.ve_html_scan.specs.declared.token.Token.{Token}
use Rattle.ve_html_scan.specs.declared.token.Token.TheVariants as lent
use Rattle.ve_html_tree.specs.Seen.{IsFirstFault, fault_met}
use Rattle.ve_html_tree.specs.declared.open.Opened.{Opened}
use Rattle.ve_html_tree.specs.Opened.{open_at, opens, open_node_numbers, AreLinked}
use Rattle.ve_html_tree.specs.Building.{Built, building, built_with}
use Rattle.ve_html_tree.specs.Nodes.{HasRoom, ShowNodes}
use Rattle.ve_html_tree.specs.declared.node.Node.{Node}
use Rattle.ve_html_tree.specs.declared.fault.HtmlFault.{HtmlFault}
use Rattle.ve_html_tree.specs.declared.fault.HtmlFault.TheVariants as faults
use Rattle.ve_html_tree.proofs.Making.{taken_all, makes}

-- ---- one token

-- where a scanner stands after a token that ends there
abbrev pub state_after : g.Token → ℕ → ScannerState → ScannerState
state_after token to p = record { text = p.text; at = to; mode = mode_after token }

-- the token t comes from the position p
pub record Comes (p : ScannerState) (t : Placed) : Type 0 where
  pub is : next_of p ≡ Ok (Some (t.token, t.to))
  pub from : t.from ≡ p.at
  pub some : p.at < t.to
  pub within : t.to ≤ length p.text

-- where a scanner begins
abbrev pub start_of : List ℕ → ScannerState
start_of text = record { text = text; at = 0; mode = Between }

abbrev on : ℕ → ScannerState → g.Token → ℕ → Tokens
on n p token to = tokens_from n (mode_after token) to (drop (to - p.at) (drop p.at p.text))

step_on : (n : ℕ) (p : ScannerState) (t : Placed) → Comes p t → tokens_from (suc n) p.mode p.at (drop p.at p.text) ≡ with_placed t (tokens_from n (mode_after t.token) t.to (drop t.to p.text))
unfolding tokens_from
step_on n p t c =
    let rest : drop (t.to - p.at) (drop p.at p.text) ≡ drop t.to p.text = drop-drop (t.to - p.at) p.at p.text ∙ ap (λ (k : ℕ). drop k p.text) (omega (arith, c.some)) in
    ap (tokens_by p.at (on n p)) c.is
    ∙ ap (λ (k : ℕ). with_placed (record { token = t.token; from = k; to = t.to }) (on n p t.token t.to)) (sym c.from)
    ∙ ap (λ (l : List ℕ). with_placed t (tokens_from n (mode_after t.token) t.to l)) rest

stop_at_end : (n : ℕ) (p : ScannerState) → next_of p ≡ Ok None → tokens_from (suc n) p.mode p.at (drop p.at p.text) ≡ record { tokens = []; fault = None }
unfolding tokens_from
stop_at_end n p e = ap (tokens_by p.at (on n p)) e

stop_at_fault : (n : ℕ) (p : ScannerState) (f : ScanFault) → next_of p ≡ Err f → tokens_from (suc n) p.mode p.at (drop p.at p.text) ≡ record { tokens = []; fault = Some f }
unfolding tokens_from
stop_at_fault n p f e = ap (tokens_by p.at (on n p)) e

-- ---- what stands while a text is read

abbrev pub fault_with : Tokens → List OpenElement → Option ForestFault
fault_with ts os = fault_in ts.fault os ts.tokens

-- what is read from a position, where n is enough
abbrev pub from_place : ℕ → ScannerState → Tokens
from_place n p = tokens_from n p.mode p.at (drop p.at p.text)

-- The nodes show nodes of a forest, which the tokens that are left make those of the text. The
-- first fault from here on, with these elements open, is that of the text.
pub record SoFar (text : List ℕ) (p : ScannerState) (nodes : List Node) (opened : Opened) : Type 0 where
  pub count : ℕ
  pub enough : length p.text - p.at < count
  pub made_nodes : List ForestNode
  pub shows : ShowNodes nodes made_nodes
  pub linked : AreLinked nodes opened
  pub same : fault_with (from_place count p) (opens nodes opened) ≡ fault_of text
  pub made : taken_all (from_place count p).tokens (building made_nodes (open_node_numbers nodes opened)) ≡ taken_all (tokens_of text).tokens (building [] [])

abbrev pub none_open : Opened
none_open = record { count = 0; innermost = 0 }

pub begins : (text : List ℕ) → SoFar text (start_of text) [] none_open
unfolding fault_of
begins text = record { count = length text + 1; enough = omega arith; made_nodes = []; shows = tt; linked = refl; same = refl; made = refl }

-- ---- the end

some_left : (p : ScannerState) (n : ℕ) → length p.text - p.at < n → (k : ℕ) × (n ≡ suc k)
some_left p zero lt = absurd (omega (arith, lt))
some_left p (suc k) lt = (k, refl)

nothing_left : (p : ScannerState) (n : ℕ) → length p.text - p.at < n → next_of p ≡ Ok None → from_place n p ≡ record { tokens = []; fault = None }
nothing_left p n lt e = let k = some_left p n lt in ap (λ (m : ℕ). from_place m p) k.1 ∙ stop_at_end k.0 p e

pub at_end : (text : List ℕ) (p : ScannerState) (ns : List Node) (os : Opened) → SoFar text p ns os → next_of p ≡ Ok None → fault_at_end (opens ns os) None ≡ fault_of text
at_end text p ns os s e = sym (ap (λ (ts : Tokens). fault_with ts (opens ns os)) (nothing_left p s.count s.enough e)) ∙ s.same

none_open_by : (ns : List Node) (ks : List ℕ) → fault_at_end (map (open_at ns) ks) None ≡ None → ks ≡ []
none_open_by ns [] e = refl
none_open_by ns (k ∷ ks) e = absurd cc

-- where the text may end, the nodes show those of the forest that spells it
pub spelled_so : (text : List ℕ) (p : ScannerState) (ns : List Node) (os : Opened) → SoFar text p ns os → next_of p ≡ Ok None → fault_at_end (opens ns os) None ≡ None → (f : Forest) × Spells text f × ShowNodes ns (forest_nodes 0 0 f)
spelled_so text p ns os s e ends =
    let found = law_found text (sym (at_end text p ns os s e) ∙ ends) in
    let f = found.0 in
    let none : open_node_numbers ns os ≡ [] = none_open_by ns (open_node_numbers ns os) ends in
    let here : building s.made_nodes (open_node_numbers ns os) ≡ taken_all (tokens_of text).tokens (building [] []) = sym (ap (λ (ts : Tokens). taken_all ts.tokens (building s.made_nodes (open_node_numbers ns os))) (nothing_left p s.count s.enough e)) ∙ s.made in
    let tokens : tokens_of text ≡ record { tokens = tokens_in 0 f; fault = None } = ap tokens_of found.1.text_is ∙ tokens_read f found.1.allowed in
    let all : building s.made_nodes (open_node_numbers ns os) ≡ building (forest_nodes 0 0 f) [] = here ∙ ap (λ (ts : Tokens). taken_all ts.tokens (building [] [])) tokens ∙ makes f 200 0 [] [] found.1.allowed in
    (f, found.1, subst (λ (l : List ForestNode). ShowNodes ns l) (ap (λ (b : Built). b.nodes) all) s.shows)

-- ---- faults

scan_stands : (os : List OpenElement) (s : ScanFault) → fault_at_end os (Some s) ≡ Some (Scan s)
scan_stands [] s = refl
scan_stands (o ∷ os) s = refl

fault_left : (p : ScannerState) (n : ℕ) (f : ScanFault) → length p.text - p.at < n → next_of p ≡ Err f → from_place n p ≡ record { tokens = []; fault = Some f }
fault_left p n f lt e = let k = some_left p n lt in ap (λ (m : ℕ). from_place m p) k.1 ∙ stop_at_fault k.0 p f e

pub at_fault : (text : List ℕ) (p : ScannerState) (ns : List Node) (os : Opened) (f : ScanFault) → SoFar text p ns os → next_of p ≡ Err f → fault_of text ≡ Some (Scan f)
at_fault text p ns os f s e = sym s.same ∙ ap (λ (ts : Tokens). fault_with ts (opens ns os)) (fault_left p s.count f s.enough e) ∙ scan_stands (opens ns os) f

-- the token that is found at p
abbrev pub found_placed : (p : ScannerState) (t : Token) → IsFound p.text p.at (next_of p) t → Placed
found_placed p t f = record { token = f.token; from = (token_span t).from; to = (token_span t).to }

abbrev found_comes : (p : ScannerState) (t : Token) (f : IsFound p.text p.at (next_of p) t) → Comes p (found_placed p t f)
found_comes p t f = record { is = f.is; from = f.from; some = f.some; within = f.boundary.0 }

-- with a token that comes
one_left : (p : ScannerState) (n : ℕ) (t : Placed) → length p.text - p.at < n → Comes p t → (k : ℕ) × (n ≡ suc k) × (from_place n p ≡ with_placed t (from_place k (state_after t.token t.to p)))
one_left p n t lt c = let k = some_left p n lt in (k.0, k.1, ap (λ (m : ℕ). from_place m p) k.1 ∙ step_on k.0 p t c)

goes_by : (text : List ℕ) (p : ScannerState) (ns : List Node) (os : Opened) (t : Placed) (s : SoFar text p ns os) → (c : Comes p t)
    → or_fault (after_token t.token t.from (opens ns os)) (λ more. fault_with (from_place (one_left p s.count t s.enough c).0 (state_after t.token t.to p)) more) ≡ fault_of text
goes_by text p ns os t s c = sym (ap (λ (ts : Tokens). fault_with ts (opens ns os)) (one_left p s.count t s.enough c).2) ∙ s.same

same_fault : (g f : ForestFault) → Some g ≡ Some f → g ≡ f
same_fault g f e = cc

met_err : (r : Result (List OpenElement) ForestFault) (f : ForestFault) → fault_met r ≡ Some f → r ≡ Err f
met_err (Ok x) f e = absurd cc
met_err (Err g) f e = ap (λ (x : ForestFault). Err x) (same_fault g f e)

stops_by : (text : List ℕ) (p : ScannerState) (ns : List Node) (os : Opened) (t : Placed) (f : ForestFault) → SoFar text p ns os → Comes p t → fault_met (after_token t.token t.from (opens ns os)) ≡ Some f → fault_of text ≡ Some f
stops_by text p ns os t f s c m =
    sym (goes_by text p ns os t s c)
    ∙ ap (λ (r : Result (List OpenElement) ForestFault). or_fault r (λ more. fault_with (from_place (one_left p s.count t s.enough c).0 (state_after t.token t.to p)) more)) (met_err (after_token t.token t.from (opens ns os)) f m)

fault_by : (e : HtmlFault) (read first : Option ForestFault) → ((f : ForestFault) → read ≡ Some f → first ≡ Some f) → IsFirstFault e read → IsFirstFault e first
fault_by (faults.Scan f) read first h e = h (Scan f) e
fault_by (faults.Mismatched at) read first h e = h (Mismatched at) e
fault_by (faults.Unclosed at) read first h e = h (Unclosed at) e
fault_by (faults.Stray at) read first h e = h (Stray at) e
fault_by (faults.TooDeep at) read first h e = h (TooDeep at) e
fault_by faults.Memory read first h e = tt

-- a token that has a fault
pub stops : (text : List ℕ) (p : ScannerState) (ns : List Node) (os : Opened) (t : Token) (e : HtmlFault) → SoFar text p ns os → (f : IsFound p.text p.at (next_of p) t) → IsFirstFault e (fault_met (after_token f.token (token_span t).from (opens ns os))) → IsFirstFault e (fault_of text)
stops text p ns os t e s f h =
    fault_by e (fault_met (after_token f.token (token_span t).from (opens ns os))) (fault_of text) (λ x m. stops_by text p ns os (found_placed p t f) x s (found_comes p t f) m) h

-- ---- going on

on_by : (text : List ℕ) (p : ScannerState) (ns : List Node) (os : Opened) (t : Placed) (ms : List Node) (more : Opened) → (s : SoFar text p ns os) → Comes p t → after_token t.token t.from (opens ns os) ≡ Ok (opens ms more)
    → ShowNodes ms (built_with t.token t.from t.to (building s.made_nodes (open_node_numbers ns os))).nodes → (built_with t.token t.from t.to (building s.made_nodes (open_node_numbers ns os))).open_ ≡ open_node_numbers ms more → AreLinked ms more → SoFar text (state_after t.token t.to p) ms more
on_by text p ns os t ms more s c a shows ks linked =
    let k = one_left p s.count t s.enough c in
    let made : Built = built_with t.token t.from t.to (building s.made_nodes (open_node_numbers ns os)) in record {
      count = k.0;
      enough = omega (arith, s.enough, k.1, c.some, c.within);
      made_nodes = made.nodes;
      shows = shows;
      linked = linked;
      same = sym (ap (λ (r : Result (List OpenElement) ForestFault). or_fault r (λ x. fault_with (from_place k.0 (state_after t.token t.to p)) x)) a) ∙ goes_by text p ns os t s c;
      made = ap (λ (l : List ℕ). taken_all (from_place k.0 (state_after t.token t.to p)).tokens (building made.nodes l)) (sym ks)
          ∙ sym (ap (λ (ts : Tokens). taken_all ts.tokens (building s.made_nodes (open_node_numbers ns os))) k.2) ∙ s.made;
    }

pub goes_on : (text : List ℕ) (p q : ScannerState) (ns : List Node) (os : Opened) (t : Token) (ms : List Node) (more : Opened) → (s : SoFar text p ns os) → (f : IsFound p.text p.at (next_of p) t) → q ≡ scanner_after (Ok (Some t)) p
    → after_token f.token (token_span t).from (opens ns os) ≡ Ok (opens ms more) → ShowNodes ms (built_with f.token (token_span t).from (token_span t).to (building s.made_nodes (open_node_numbers ns os))).nodes
    → (built_with f.token (token_span t).from (token_span t).to (building s.made_nodes (open_node_numbers ns os))).open_ ≡ open_node_numbers ms more → AreLinked ms more → SoFar text q ms more
goes_on text p q ns os t ms more s f e a shows ks linked =
    let to = (token_span t).to in
    let stands : q ≡ state_after f.token to p = e ∙ ap (λ (m : Mode). record { text = p.text; at = to; mode = m }) f.mode in
    subst (λ (x : ScannerState). SoFar text x ms more) (sym stands) (on_by text p ns os (found_placed p t f) ms more s (found_comes p t f) a shows ks linked)

-- ---- the text of a token

raw_text : (at y to : ℕ) (text : List ℕ) (t inner : List ℕ) (k : g.Token) → g.Raw t ≡ k → t ≡ inner → y ≡ to → y ≡ at + length inner → to ≡ at + length (g.token_text k)
raw_text at y to text t inner k e same end len = omega (arith, end, len, ap length same, ap (λ (x : g.Token). length (g.token_text x)) e)

raw_or_not : (at y to : ℕ) (name text : List ℕ) (k : g.Token) (b : Bool) → VerbatimFound (g.end_text name) at y text → cond b (between_at at text) (Ok (Some (g.Raw (take (y - at) text), y))) ≡ Ok (Some (k, to)) → to ≡ at + length (g.token_text k)
raw_or_not at y to name text k true v e = (between_found at text k to e).to_is
raw_or_not at y to name text k false v e =
    let same = same_step (g.Raw (take (y - at) text), y) (k, to) e in
    raw_text at y to text (take (y - at) text) v.inner k (ap (λ (p : g.Token × ℕ). p.0) same) v.taken (ap (λ (p : g.Token × ℕ). p.1) same) v.to_is

after_is : (at y : ℕ) (name text : List ℕ) → verbatim_end (g.end_text name) (fault at UnclosedRaw) at text ≡ Ok y → token_at (After name) at text ≡ cond (y == at) (between_at at text) (Ok (Some (g.Raw (take (y - at) text), y)))
unfolding token_at
after_is at y name text e = rw e refl

end_some : (name : List ℕ) → 0 < length (g.end_text name)
end_some name = omega (arith, length-append (60 ∷ 47 ∷ name) (62 ∷ []))

after_by : (at to : ℕ) (name text : List ℕ) (k : g.Token) (r : Result ℕ ScanFault) → verbatim_end (g.end_text name) (fault at UnclosedRaw) at text ≡ r → token_at (After name) at text ≡ Ok (Some (k, to)) → to ≡ at + length (g.token_text k)
after_by at to name text k (Err f) v e = absurd (not_ok (token_at (After name) at text) f (Some (k, to)) (raw_fails at name text f v) e)
after_by at to name text k (Ok y) v e = raw_or_not at y to name text k (y == at) (verbatim_parts (g.end_text name) (fault at UnclosedRaw) at y text (end_some name) v) (sym (after_is at y name text v) ∙ e)

failed_is : (f : ScanFault) (at : ℕ) (text : List ℕ) → token_at (Failed f) at text ≡ Err f
unfolding token_at
failed_is f at text = refl

-- a token ends after its text
text_at : (m : Mode) (at to : ℕ) (text : List ℕ) (k : g.Token) → token_at m at text ≡ Ok (Some (k, to)) → to ≡ at + length (g.token_text k)
text_at Between at to text k e = (token_found at text k to e).to_is
text_at (After name) at to text k e = after_by at to name text k (verbatim_end (g.end_text name) (fault at UnclosedRaw) at text) refl e
text_at (Failed f) at to text k e = absurd (not_ok (token_at (Failed f) at text) f (Some (k, to)) (failed_is f at text) e)

pub text_found : (p : ScannerState) (t : Token) → (f : IsFound p.text p.at (next_of p) t) → HasText t f.token
text_found p t f = omega (arith, text_at p.mode p.at (token_span t).to (drop p.at p.text) f.token f.is, f.from)

-- ---- the room in a comment

comment_long : (text : List ℕ) → length (g.token_text (g.Comment text)) ≡ 7 + length text
comment_long text = omega (arith, length-append (60 ∷ 33 ∷ 45 ∷ 45 ∷ text) (45 ∷ 45 ∷ 62 ∷ []))

room_by : (t : Token) (k : g.Token) → ShowsToken t k → ((x : List ℕ) → k ≡ g.Comment x → (token_span t).from + 7 ≤ (token_span t).to) → HasRoom t
room_by (lent.StartTag name attrs span) k h r = tt
room_by (lent.EndTag name span) k h r = tt
room_by (lent.Chars text span) k h r = tt
room_by (lent.Raw text span) k h r = tt
room_by (lent.Comment text span) (g.Start n attributes slash) h r = absurd h
room_by (lent.Comment text span) (g.End n) h r = absurd h
room_by (lent.Comment text span) (g.Chars x) h r = absurd h
room_by (lent.Comment text span) (g.Raw x) h r = absurd h
room_by (lent.Comment text span) (g.Comment x) h r = r x refl

pub room : (p : ScannerState) (t : Token) → IsFound p.text p.at (next_of p) t → HasRoom t
room p t f = room_by t f.token f.shows (λ x e. omega (arith, text_found p t f, ap (λ (k : g.Token). length (g.token_text k)) e, comment_long x))
