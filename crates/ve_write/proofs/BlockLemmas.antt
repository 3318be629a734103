-- One step among blocks.
use Rattle.std.proofs.Common.{◌≡◌, ◌≢◌, ℕ, ◌+◌, Bool, true, false, List, [], ◌∷◌, ◌++◌, drop, refl, sym, ap, ◌∙◌, subst, append_assoc, Option, Some, None}
use Rattle.std.specs.Prelude.{IfNone, IfSome, not, ◌&&◌, option_map, unwrap_or, encode_utf8_all, if◌then◌else◌}
use Rattle.std.specs.List.{slice_get}
use Rattle.std.proofs.lemmas.Bool.{and_parts}
use Rattle.std.proofs.lemmas.List.{append-nil}
use Rattle.ve_base.specs.declared.value.ValueId.{ValueId}
use Rattle.ve_kinds.specs.declared.kind.Kind.{Kind}
use Rattle.ve_kinds.specs.declared.kind.Kind.TheVariants.{P, H1, H2, H3, H4, H5, H6, Pre, InternalList}
use Rattle.ve_kinds.specs.Table.{kind_same, is_content_branch, is_leaf}
use Rattle.model_items.proofs.SameLemmas.{Means-kind_same}
use Rattle.model_items.specs.declared.item.Item.{Item}
use Rattle.model_items.specs.declared.item.Item.TheVariants.{Char, Opening, Closing}
use Rattle.model_items.specs.Plain.{value_at, head_in, white_in}
use Rattle.model_page.specs.Tags.{tag_of}
use Rattle.model_spelling.specs.Written.{start_tag}
use Rattle.model_page_write.specs.Nodes.{NodesEnding, Start, Nodes, Node, first_outer, node_items}
use Rattle.model_page_write.specs.Written.{Writer, blocks, content, end_tag, letter, original_of, fresh_text, element_text, leaf_text, is_bare, white_after}
use Rattle.ve_write.specs.Siblings.{View, ending_at, Ends, is_end}
use Rattle.ve_write.specs.After.{Follows}
use Rattle.ve_write.specs.declared.ends.After.{After}
use Rattle.ve_write.proofs.SiblingLemmas.{found_at, char_here, opening_here, start_of, node_pre, node_later, node_outer, none_here}
use Rattle.ve_node_text.specs.Leaves.{leaf_of}
use Rattle.ve_node_text.proofs.LeafLemmas.{leaf_is}
use Rattle.ve_write.specs.Bare.{bare_in, IsBareAt}
use Rattle.ve_write.specs.Begun.{holds_blocks, nests, single}
use Rattle.ve_write.specs.Told.{blocks_at, content_at, copied_first, view_of, GoesOn, IsAfresh, IsAppended, Known}
use Rattle.ve_write.proofs.ContentLemmas.{three}

-- ---- kinds

not_p : (kind : Kind) (b : Bool) → kind_same kind P ≡ b → is_content_branch kind ≡ false → b ≡ false
not_p kind false e h = refl
not_p kind true e h = let same : kind ≡ P = Means-kind_same.equal kind P e in let f : true ≡ false = ap is_content_branch (sym same) ∙ h in f

pub not_paragraph : (kind : Kind) → is_content_branch kind ≡ false → kind_same kind P ≡ false
not_paragraph kind h = not_p kind (kind_same kind P) refl h

-- what such a kind is not
pub record Nests (kind : Kind) : Type 0 where
  pub list : kind_same kind InternalList ≡ false
  pub leaf : is_leaf kind ≡ false
  pub branch : is_content_branch kind ≡ false

pub not_true : (b : Bool) → not b ≡ true → b ≡ false
not_true false h = refl
not_true true h = sym h

pub nests_is : (kind : Kind) → holds_blocks kind ≡ true → Nests kind
nests_is kind h =
    let a = and_parts (not (kind_same kind InternalList)) _ h in
    let b = and_parts (not (is_leaf kind)) _ a.1 in
    record { list = not_true _ a.0; leaf = not_true _ b.0; branch = not_true _ b.1 }

-- ---- the text of a node

-- only paragraphs are bare
pub no_bare : (before : Bool) (s : Start) (inside : Nodes) (after : List ℕ) → kind_same s.kind P ≡ false → is_bare before s inside after ≡ false
no_bare before s inside after h = rw h refl

-- where no original bytes are found, or they are not taken
pub no_original : (w : Writer) (bare : Bool) (s : Start) (items : _) → w.original s items ≡ None → original_of w bare s items ≡ None
no_original w bare s items h = cases (s.generated && not bare)
  where
    cases : (b : Bool) → (if b then None else w.original s items) ≡ None
    cases true = refl
    cases false = h

-- the blocks of a node that holds blocks
pub nest_text : (w : Writer) (before : Bool) (closing : List ℕ) (s : Start) (inside : Nodes) (pre : List ℕ) (later : Nodes) → Nests s.kind →
    original_of w (is_bare before s inside (white_after later closing)) s (node_items s inside pre) ≡ None →
    blocks w before closing (Node s inside pre later) ≡ (encode_utf8_all s.pre ++ element_text s (blocks w false pre inside) pre) ++ blocks w false closing later
nest_text w before closing s inside pre later n none =
    let bare = is_bare before s inside (white_after later closing) in
    let is : bare ≡ false = no_bare before s inside (white_after later closing) (not_paragraph s.kind n.branch) in
    let text = if is_content_branch s.kind then content w [] inside else blocks w false pre inside in
    let text_is : text ≡ blocks w false pre inside = ap (λ b. if b then content w [] inside else blocks w false pre inside) n.branch in
    let fresh : fresh_text w bare s text pre ≡ element_text s (blocks w false pre inside) pre =
    ap (λ b. fresh_text w b s text pre) is ∙ ap (λ t. fresh_text w false s t pre) text_is ∙ rw (n.list, n.leaf) refl in
    ap (λ o. (encode_utf8_all s.pre ++ unwrap_or o (fresh_text w bare s text pre)) ++ blocks w bare closing later) none
    ∙ ap (λ t. (encode_utf8_all s.pre ++ t) ++ blocks w bare closing later) fresh
    ∙ ap (λ b. (encode_utf8_all s.pre ++ element_text s (blocks w false pre inside) pre) ++ blocks w b closing later) is

-- ---- a node that holds blocks

regroup : (o p s t q e : List ℕ) → ((((o ++ p) ++ s) ++ t) ++ q) ++ e ≡ o ++ (p ++ (((s ++ t) ++ q) ++ e))
regroup o p s t q e =
    ap (λ l. (l ++ q) ++ e) (append_assoc (o ++ p) s t) ∙ ap (λ l. l ++ e) (append_assoc (o ++ p) (s ++ t) q) ∙ append_assoc (o ++ p) ((s ++ t) ++ q) e ∙ append_assoc o p (((s ++ t) ++ q) ++ e)

-- the whitespace before a node and its text, with its tags or without them
joined : (bare : Bool) (o0 o1 o2 o3 p t text q e : List ℕ) → o1 ≡ (o0 ++ p) ++ (if bare then [] else t) → o2 ≡ o1 ++ text → o3 ≡ o2 ++ (if bare then [] else q ++ e) →
    o3 ≡ o0 ++ (p ++ (if bare then text else ((t ++ text) ++ q) ++ e))
joined true o0 o1 o2 o3 p t text q e f g h =
    h ∙ append-nil o2 ∙ g ∙ ap (λ l. l ++ text) (f ∙ append-nil (o0 ++ p)) ∙ append_assoc o0 p text
joined false o0 o1 o2 o3 p t text q e f g h =
    h ∙ ap (λ l. l ++ (q ++ e)) (g ∙ ap (λ l. l ++ text) f) ∙ sym (append_assoc (((o0 ++ p) ++ t) ++ text) q e) ∙ regroup o0 p t text q e

pub nest_put : (k : Known) (at : ℕ) (kind : Kind) (generated : Bool) (head marks pre : Option ValueId) (origin : Option ℕ) (before : Bool) (end : ℕ) (after : After)
    (o0 o1 o2 o3 : List ℕ) → slice_get k.items at ≡ Some (Opening kind generated head marks pre origin) → Nests kind → IsAfresh k before at → Ends k.items (at + 1) end → Follows k.items end after →
    o1 ≡ (o0 ++ encode_utf8_all (white_in (value_at k.values pre))) ++ start_tag (encode_utf8_all (tag_of kind)) (head_in (value_at k.values head)).attrs →
    IsAppended k o1 o2 (λ w v. blocks_at w v k.items false (at + 1)) →
    o3 ≡ o2 ++ (encode_utf8_all (white_in (value_at k.values after.pre)) ++ end_tag (tag_of kind)) →
    GoesOn k o0 o3 (λ w v. blocks_at w v k.items before at) (λ w v. blocks_at w v k.items false after.at)
nest_put k at kind generated head marks pre origin before end after o0 o1 o2 o3 found n afresh ends follows first inner last w bodies told =
    let values = k.values in
    let items = k.items in
    let v : View = view_of k bodies in
    let s : Start = start_of v at kind generated head marks pre origin in
    let inside : Nodes = (ending_at v items (at + 1)).here in
    let round = (ending_at v items (at + 1)).outer in
    let here = opening_here v items at kind generated head marks pre origin (found_at items at _ found) in
    let afresh_is = sym (ap (copied_first w before) here) ∙ afresh w bodies told in
    let p = encode_utf8_all (white_in (value_at values pre)) in
    let t = start_tag (encode_utf8_all (tag_of kind)) (head_in (value_at values head)).attrs in
    let text = blocks_at w v items false (at + 1) in
    let q = encode_utf8_all (first_outer round).pre in
    let e = end_tag (tag_of kind) in
    let white : encode_utf8_all (white_in (value_at values after.pre)) ≡ q = ap encode_utf8_all (sym (node_pre items (at + 1) end after ends follows v)) in
    let all : o3 ≡ o0 ++ (p ++ (((t ++ text) ++ q) ++ e)) = joined false o0 o1 o2 o3 p t text q e first (inner w bodies told) (last ∙ ap (λ l. o2 ++ (l ++ e)) white) in
    let more = blocks w false (first_outer (ending_at v items after.at).outer).pre (ending_at v items after.at).here in
    ap (λ l. l ++ more) all
    ∙ append_assoc o0 (p ++ (((t ++ text) ++ q) ++ e)) more
    ∙ ap (λ o. o0 ++ ((p ++ (((t ++ text) ++ q) ++ e)) ++ blocks w false (first_outer o).pre (ending_at v items after.at).here)) (sym (node_outer items (at + 1) end after ends follows v))
    ∙ ap (λ l. o0 ++ ((p ++ (((t ++ text) ++ q) ++ e)) ++ blocks w false (first_outer (drop 1 round)).pre l)) (sym (node_later items (at + 1) end after ends follows v))
    ∙ ap (λ l. o0 ++ l) (sym (nest_text w before (first_outer (drop 1 round)).pre s inside (first_outer round).pre (first_outer round).later n afresh_is))
    ∙ sym (ap (λ (x : NodesEnding). o0 ++ blocks w before (first_outer x.outer).pre x.here) here)

-- ---- where blocks end

pub blocks_done : (k : Known) (at : ℕ) (before : Bool) (old new : List ℕ) (f : Writer → View → List ℕ) → is_end (drop at k.items) ≡ true →
    GoesOn k old new f (λ w v. blocks_at w v k.items before at) → IsAppended k old new f
blocks_done k at before old new f h so w bodies told =
    let values = k.values in
    let items = k.items in
    let v : View = view_of k bodies in
    sym (append-nil new) ∙ sym (ap (λ n. new ++ blocks w before (first_outer (ending_at v items at).outer).pre n) (none_here v items at h)) ∙ so w bodies told

-- ---- which elements hold blocks

pub nests_found : (items : List Item) (at : ℕ) (item : Item) → slice_get items at ≡ Some item → nests (drop at items) ≡ nests (item ∷ [])
nests_found items at item found = ap nests (found_at items at item found) ∙ alone item (drop (at + 1) items)
  where
    alone : (item : Item) (rest : List Item) → nests (item ∷ rest) ≡ nests (item ∷ [])
    alone (Char ch marks) rest = refl
    alone (Opening kind generated head marks pre origin) rest = refl
    alone (Closing kind pre) rest = refl

pub true_false : {A : Type 0} (b : Bool) → b ≡ true → b ≡ false → A
true_false b e f = let g : true ≡ false = sym e ∙ f in absurd cc

-- ---- what is told where nothing was found

pub none_then : {A P : Type 0} (o : Option A) → ((x : A) → o ≢ Some x) → IfNone o P → P
none_then None h p = p
none_then (Some x) h p = absurd (h x refl)

pub some_then : {A : Type 0} (Q : A → Type 0) (o : Option A) (x : A) → o ≡ Some x → IfSome o Q → Q x
some_then Q o x is h = subst (λ p. IfSome p Q) is h

-- ---- a character, a leaf and the internal list among blocks

pub char_block : (k : Known) (at : ℕ) (ch : ℕ) (marks : Option ValueId) (before : Bool) (old new : List ℕ) → slice_get k.items at ≡ Some (Char ch marks) →
    new ≡ old ++ letter ch → GoesOn k old new (λ w v. blocks_at w v k.items before at) (λ w v. blocks_at w v k.items false (at + 1))
char_block k at ch marks before old new found e w bodies told =
    let values = k.values in
    let items = k.items in
    let v : View = view_of k bodies in
    let here = char_here v items at ch marks (found_at items at _ found) in
    ap (λ l. l ++ blocks_at w v items false (at + 1)) e ∙ append_assoc old (letter ch) (blocks_at w v items false (at + 1))
    ∙ sym (ap (λ (x : NodesEnding). old ++ blocks w before (first_outer x.outer).pre x.here) here)

single_cases : (w : Writer) (s : Start) (text pre : List ℕ) (list leaf : Bool) → (not list && (not leaf && not false)) ≡ false →
    (if list then [] else (if leaf then leaf_text w s s.kind else (if false then text else element_text s text pre))) ≡ (if list then [] else leaf_of s.head (option_map w.html s.body) s.kind)
single_cases w s text pre true leaf h = refl
single_cases w s text pre false true h = leaf_is w s s.kind
single_cases w s text pre false false h = cc

pub single_text : (w : Writer) (before : Bool) (closing : List ℕ) (s : Start) (inside : Nodes) (pre : List ℕ) (later : Nodes) → is_content_branch s.kind ≡ false → holds_blocks s.kind ≡ false →
    original_of w (is_bare before s inside (white_after later closing)) s (node_items s inside pre) ≡ None →
    blocks w before closing (Node s inside pre later) ≡ (encode_utf8_all s.pre ++ single s.head (option_map w.html s.body) s.kind) ++ blocks w false closing later
single_text w before closing s inside pre later branch holds none =
    let bare = is_bare before s inside (white_after later closing) in
    let is : bare ≡ false = no_bare before s inside (white_after later closing) (not_paragraph s.kind branch) in
    let text = if is_content_branch s.kind then content w [] inside else blocks w false pre inside in
    let rest : (not (kind_same s.kind InternalList) && (not (is_leaf s.kind) && not false)) ≡ false =
    ap (λ b. not (kind_same s.kind InternalList) && (not (is_leaf s.kind) && not b)) (sym branch) ∙ holds in
    let fresh : fresh_text w bare s text pre ≡ single s.head (option_map w.html s.body) s.kind =
    ap (λ b. fresh_text w b s text pre) is ∙ single_cases w s text pre (kind_same s.kind InternalList) (is_leaf s.kind) rest in
    ap (λ o. (encode_utf8_all s.pre ++ unwrap_or o (fresh_text w bare s text pre)) ++ blocks w bare closing later) none
    ∙ ap (λ t. (encode_utf8_all s.pre ++ t) ++ blocks w bare closing later) fresh
    ∙ ap (λ b. (encode_utf8_all s.pre ++ single s.head (option_map w.html s.body) s.kind) ++ blocks w b closing later) is

pub single_put : (k : Known) (at : ℕ) (kind : Kind) (generated : Bool) (head marks pre : Option ValueId) (origin : Option ℕ) (before : Bool) (end : ℕ) (after : After)
    (o0 o1 o2 : List ℕ) → slice_get k.items at ≡ Some (Opening kind generated head marks pre origin) → is_content_branch kind ≡ false → holds_blocks kind ≡ false → IsAfresh k before at → Ends k.items (at + 1) end → Follows k.items end after →
    o1 ≡ o0 ++ encode_utf8_all (white_in (value_at k.values pre)) → o2 ≡ o1 ++ single (head_in (value_at k.values head)) (k.texts at) kind →
    GoesOn k o0 o2 (λ w v. blocks_at w v k.items before at) (λ w v. blocks_at w v k.items false after.at)
single_put k at kind generated head marks pre origin before end after o0 o1 o2 found branch holds afresh ends follows first second w bodies told =
    let values = k.values in
    let items = k.items in
    let v : View = view_of k bodies in
    let s : Start = start_of v at kind generated head marks pre origin in
    let inside : Nodes = (ending_at v items (at + 1)).here in
    let round = (ending_at v items (at + 1)).outer in
    let here = opening_here v items at kind generated head marks pre origin (found_at items at _ found) in
    let afresh_is = sym (ap (copied_first w before) here) ∙ afresh w bodies told in
    let p = encode_utf8_all (white_in (value_at values pre)) in
    let t = single (head_in (value_at values head)) (k.texts at) kind in
    let more = blocks_at w v items false after.at in
    three o0 o1 o2 more p t first second
    ∙ ap (λ h. o0 ++ ((p ++ single (head_in (value_at values head)) h kind) ++ more)) (sym (told.known at))
    ∙ ap (λ o. o0 ++ ((p ++ single s.head (option_map w.html s.body) kind) ++ blocks w false (first_outer o).pre (ending_at v items after.at).here)) (sym (node_outer items (at + 1) end after ends follows v))
    ∙ ap (λ l. o0 ++ ((p ++ single s.head (option_map w.html s.body) kind) ++ blocks w false (first_outer (drop 1 round)).pre l)) (sym (node_later items (at + 1) end after ends follows v))
    ∙ ap (λ l. o0 ++ l) (sym (single_text w before (first_outer (drop 1 round)).pre s inside (first_outer round).pre (first_outer round).later branch holds afresh_is))
    ∙ sym (ap (λ (x : NodesEnding). o0 ++ blocks w before (first_outer x.outer).pre x.here) here)

-- ---- a content branch

pub no_list : (kind : Kind) (b : Bool) → kind_same kind InternalList ≡ b → is_content_branch kind ≡ true → b ≡ false
no_list kind false e h = refl
no_list kind true e h = let same : kind ≡ InternalList = Means-kind_same.equal kind InternalList e in let f : false ≡ true = ap is_content_branch (sym same) ∙ h in sym f

no_leaf : (kind : Kind) → is_content_branch kind ≡ true → is_leaf kind ≡ false
no_leaf P h = refl
no_leaf H1 h = refl
no_leaf H2 h = refl
no_leaf H3 h = refl
no_leaf H4 h = refl
no_leaf H5 h = refl
no_leaf H6 h = refl
no_leaf Pre h = refl
no_leaf _ h = cc

pub branch_text : (w : Writer) (before : Bool) (closing : List ℕ) (s : Start) (inside : Nodes) (pre : List ℕ) (later : Nodes) → is_content_branch s.kind ≡ true →
    original_of w (is_bare before s inside (white_after later closing)) s (node_items s inside pre) ≡ None →
    let bare = is_bare before s inside (white_after later closing) in
    blocks w before closing (Node s inside pre later) ≡ (encode_utf8_all s.pre ++ (if bare then content w [] inside else element_text s (content w [] inside) pre)) ++ blocks w bare closing later
branch_text w before closing s inside pre later branch none =
    let bare = is_bare before s inside (white_after later closing) in
    let text = if is_content_branch s.kind then content w [] inside else blocks w false pre inside in
    let text_is : text ≡ content w [] inside = ap (λ b. if b then content w [] inside else blocks w false pre inside) branch in
    let list = no_list s.kind (kind_same s.kind InternalList) refl branch in
    let leaf = no_leaf s.kind branch in
    let fresh : fresh_text w bare s text pre ≡ (if bare then content w [] inside else element_text s (content w [] inside) pre) =
    ap (λ t. fresh_text w bare s t pre) text_is ∙ rw (list, leaf) refl in
    ap (λ o. (encode_utf8_all s.pre ++ unwrap_or o (fresh_text w bare s text pre)) ++ blocks w bare closing later) none
    ∙ ap (λ t. (encode_utf8_all s.pre ++ t) ++ blocks w bare closing later) fresh

pub branch_put : (k : Known) (at : ℕ) (kind : Kind) (generated : Bool) (head marks pre : Option ValueId) (origin : Option ℕ) (before bare : Bool) (end : ℕ) (after : After)
    (o0 o1 o2 o3 : List ℕ) → slice_get k.items at ≡ Some (Opening kind generated head marks pre origin) → is_content_branch kind ≡ true → IsAfresh k before at → Ends k.items (at + 1) end → Follows k.items end after → IsBareAt k.values k.items before at bare →
    o1 ≡ (o0 ++ encode_utf8_all (white_in (value_at k.values pre))) ++ (if bare then [] else start_tag (encode_utf8_all (tag_of kind)) (head_in (value_at k.values head)).attrs) →
    IsAppended k o1 o2 (λ w v. content_at w v k.items [] (at + 1)) →
    o3 ≡ o2 ++ (if bare then [] else encode_utf8_all (white_in (value_at k.values after.pre)) ++ end_tag (tag_of kind)) →
    GoesOn k o0 o3 (λ w v. blocks_at w v k.items before at) (λ w v. blocks_at w v k.items bare after.at)
branch_put k at kind generated head marks pre origin before bare end after o0 o1 o2 o3 found branch afresh ends follows is_bare_at first inner last w bodies told =
    let values = k.values in
    let items = k.items in
    let v : View = view_of k bodies in
    let s : Start = start_of v at kind generated head marks pre origin in
    let inside : Nodes = (ending_at v items (at + 1)).here in
    let round = (ending_at v items (at + 1)).outer in
    let here = opening_here v items at kind generated head marks pre origin (found_at items at _ found) in
    let afresh_is = sym (ap (copied_first w before) here) ∙ afresh w bodies told in
    let p = encode_utf8_all (white_in (value_at values pre)) in
    let t = start_tag (encode_utf8_all (tag_of kind)) (head_in (value_at values head)).attrs in
    let text = content w [] inside in
    let q = encode_utf8_all (first_outer round).pre in
    let e = end_tag (tag_of kind) in
    let own = is_bare before s inside (white_after (first_outer round).later (first_outer (drop 1 round)).pre) in
    let bare_is : bare ≡ own = is_bare_at bodies ∙ ap (λ (x : NodesEnding). bare_in before (first_outer x.outer).pre x.here) here in
    let white : encode_utf8_all (white_in (value_at values after.pre)) ≡ q = ap encode_utf8_all (sym (node_pre items (at + 1) end after ends follows v)) in
    let all = joined bare o0 o1 o2 o3 p t text q e first (inner w bodies told) (last ∙ ap (λ l. o2 ++ (if bare then [] else l ++ e)) white) in
    let mid = λ (b : Bool). p ++ (if b then text else ((t ++ text) ++ q) ++ e) in
    ap (λ l. l ++ blocks_at w v items bare after.at) all
    ∙ append_assoc o0 (mid bare) (blocks_at w v items bare after.at)
    ∙ ap (λ o. o0 ++ (mid bare ++ blocks w bare (first_outer o).pre (ending_at v items after.at).here)) (sym (node_outer items (at + 1) end after ends follows v))
    ∙ ap (λ l. o0 ++ (mid bare ++ blocks w bare (first_outer (drop 1 round)).pre l)) (sym (node_later items (at + 1) end after ends follows v))
    ∙ ap (λ b. o0 ++ (mid b ++ blocks w b (first_outer (drop 1 round)).pre (first_outer round).later)) bare_is
    ∙ ap (λ l. o0 ++ l) (sym (branch_text w before (first_outer (drop 1 round)).pre s inside (first_outer round).pre (first_outer round).later branch afresh_is))
    ∙ sym (ap (λ (x : NodesEnding). o0 ++ blocks w before (first_outer x.outer).pre x.here) here)
