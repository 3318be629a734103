-- The tags of kinds and of annotations.
use Rattle.std.proofs.Common.{◌≡◌, ℕ, Bool, true, false, ◌||◌, ◌&&◌, zero, suc, arith, List, [], ◌∷◌, map, Some, refl, sym, ap, ◌∙◌, subst, inl, inr}
use Rattle.std.proofs.lemmas.Bool.{cases_Bool, and_parts}
use Rattle.std.proofs.lemmas.Grind.{common_steps}
use Rattle.std.proofs.lemmas.Str.{encodes-IsAscii}
use Rattle.std.specs.Str.{IsAscii}
use Rattle.std.specs.Prelude.{encode_utf8_all, nat_lt, bytes_eq}
use Rattle.model_spelling.specs.Grammar.{name_same, is_tag_name, is_plaintext, is_letter}
use Rattle.ve_kinds.specs.Tags.{is_void, is_raw, is_one_of, kind_of_tag, annotation_tags}
use Rattle.ve_kinds.specs.declared.kind.Kind.{Kind}
use Rattle.ve_kinds.specs.declared.kind.Kind.TheVariants.{Root, P, H1, H2, H3, H4, H5, H6, Pre, Section, Li, Dt, Dd, Blockquote, Div, Td, Th, Caption, InternalItem, Ul, Ol, Dl, Table, Thead, Tbody, Tfoot, Tr, InternalList, TransBlock, AlienBlock, Br, Img, Ref, TransInline, AlienInline}
use Rattle.ve_kinds.specs.Table.{kind_same}
use Rattle.ve_kinds.specs.Table.{is_element, is_leaf, is_among, is_flow, is_content_branch, structural_kinds, may_hold}
use Rattle.model_page.specs.Tags.{tag_of, is_annotation_tag, is_inline_tag}
use denote.Enum.Bare.{same_true}
use Rattle.ve_kinds.specs.contracts.kind.Kind.{the_type}
use Rattle.ve_base.specs.declared.marks.Mark.{Mark}
use Rattle.model_spelling.specs.Grammar.{start_text}
use Rattle.model_spelling.specs.Written.{canon_attrs, attr_bytes}
use Rattle.model_page.specs.Parts.{Ended}
use Rattle.model_page.specs.Fit.{Content, Flow, Leaf, fit_of}
use Rattle.ve_kinds.specs.Table.{is_inline_leaf}
use Rattle.model_page_write.specs.Nodes.{Start}
use Rattle.model_page_write.specs.Written.{leaf_text, Writer}
use Rattle.model_page_law.proofs.EscapeLemmas.{same_bytes}

abbrev all_small : List ℕ → Bool
all_small [] = true
all_small (b ∷ bs) = nat_lt b 128 && all_small bs

small-IsAscii : (bs : List ℕ) → all_small bs ≡ true → IsAscii bs
small-IsAscii [] h i = omega arith
small-IsAscii (b ∷ bs) h zero = let p : nat_lt b 128 ≡ true = (and_parts (nat_lt b 128) (all_small bs) h).0 in grind (arith, common_steps)
small-IsAscii (b ∷ bs) h (suc i) = small-IsAscii bs (and_parts (nat_lt b 128) (all_small bs) h).1 i

ascii_bytes : (bs : List ℕ) → all_small bs ≡ true → encode_utf8_all bs ≡ bs
ascii_bytes bs h = encodes-IsAscii bs (small-IsAscii bs h)

pub record BranchTag (k : Kind) : Type 0 where
  pub kind : kind_of_tag (tag_of k) ≡ Some k
  pub block : is_inline_tag (tag_of k) ≡ false
  pub name_is : is_tag_name (tag_of k) ≡ true
  pub void_is : is_void (tag_of k) ≡ false
  pub raw_is : is_raw (tag_of k) ≡ false
  pub bytes : encode_utf8_all (tag_of k) ≡ tag_of k
  pub other : kind_same k InternalList ≡ false
  pub class : is_content_branch k ≡ false → is_flow k ≡ false → is_among structural_kinds k ≡ true
  pub structural : is_among structural_kinds k ≡ true → (is_content_branch k ≡ false) × (is_flow k ≡ false)

pub branch_tag : (k : Kind) → is_element k ≡ true → is_leaf k ≡ false → BranchTag k
unfolding is_void is_raw name_same is_plaintext is_letter
branch_tag Root e l = cc
branch_tag P e l = record { kind = refl; block = refl; name_is = refl; void_is = refl; raw_is = refl; bytes = ascii_bytes (tag_of P) refl; other = refl; class = λ a b. cc; structural = λ a. cc }
branch_tag H1 e l = record { kind = refl; block = refl; name_is = refl; void_is = refl; raw_is = refl; bytes = ascii_bytes (tag_of H1) refl; other = refl; class = λ a b. cc; structural = λ a. cc }
branch_tag H2 e l = record { kind = refl; block = refl; name_is = refl; void_is = refl; raw_is = refl; bytes = ascii_bytes (tag_of H2) refl; other = refl; class = λ a b. cc; structural = λ a. cc }
branch_tag H3 e l = record { kind = refl; block = refl; name_is = refl; void_is = refl; raw_is = refl; bytes = ascii_bytes (tag_of H3) refl; other = refl; class = λ a b. cc; structural = λ a. cc }
branch_tag H4 e l = record { kind = refl; block = refl; name_is = refl; void_is = refl; raw_is = refl; bytes = ascii_bytes (tag_of H4) refl; other = refl; class = λ a b. cc; structural = λ a. cc }
branch_tag H5 e l = record { kind = refl; block = refl; name_is = refl; void_is = refl; raw_is = refl; bytes = ascii_bytes (tag_of H5) refl; other = refl; class = λ a b. cc; structural = λ a. cc }
branch_tag H6 e l = record { kind = refl; block = refl; name_is = refl; void_is = refl; raw_is = refl; bytes = ascii_bytes (tag_of H6) refl; other = refl; class = λ a b. cc; structural = λ a. cc }
branch_tag Pre e l = record { kind = refl; block = refl; name_is = refl; void_is = refl; raw_is = refl; bytes = ascii_bytes (tag_of Pre) refl; other = refl; class = λ a b. cc; structural = λ a. cc }
branch_tag Section e l = record { kind = refl; block = refl; name_is = refl; void_is = refl; raw_is = refl; bytes = ascii_bytes (tag_of Section) refl; other = refl; class = λ a b. cc; structural = λ a. cc }
branch_tag Li e l = record { kind = refl; block = refl; name_is = refl; void_is = refl; raw_is = refl; bytes = ascii_bytes (tag_of Li) refl; other = refl; class = λ a b. cc; structural = λ a. cc }
branch_tag Dt e l = record { kind = refl; block = refl; name_is = refl; void_is = refl; raw_is = refl; bytes = ascii_bytes (tag_of Dt) refl; other = refl; class = λ a b. cc; structural = λ a. cc }
branch_tag Dd e l = record { kind = refl; block = refl; name_is = refl; void_is = refl; raw_is = refl; bytes = ascii_bytes (tag_of Dd) refl; other = refl; class = λ a b. cc; structural = λ a. cc }
branch_tag Blockquote e l = record { kind = refl; block = refl; name_is = refl; void_is = refl; raw_is = refl; bytes = ascii_bytes (tag_of Blockquote) refl; other = refl; class = λ a b. cc; structural = λ a. cc }
branch_tag Div e l = record { kind = refl; block = refl; name_is = refl; void_is = refl; raw_is = refl; bytes = ascii_bytes (tag_of Div) refl; other = refl; class = λ a b. cc; structural = λ a. cc }
branch_tag Td e l = record { kind = refl; block = refl; name_is = refl; void_is = refl; raw_is = refl; bytes = ascii_bytes (tag_of Td) refl; other = refl; class = λ a b. cc; structural = λ a. cc }
branch_tag Th e l = record { kind = refl; block = refl; name_is = refl; void_is = refl; raw_is = refl; bytes = ascii_bytes (tag_of Th) refl; other = refl; class = λ a b. cc; structural = λ a. cc }
branch_tag Caption e l = record { kind = refl; block = refl; name_is = refl; void_is = refl; raw_is = refl; bytes = ascii_bytes (tag_of Caption) refl; other = refl; class = λ a b. cc; structural = λ a. cc }
branch_tag InternalItem e l = cc
branch_tag Ul e l = record { kind = refl; block = refl; name_is = refl; void_is = refl; raw_is = refl; bytes = ascii_bytes (tag_of Ul) refl; other = refl; class = λ a b. refl; structural = λ a. (refl, refl) }
branch_tag Ol e l = record { kind = refl; block = refl; name_is = refl; void_is = refl; raw_is = refl; bytes = ascii_bytes (tag_of Ol) refl; other = refl; class = λ a b. refl; structural = λ a. (refl, refl) }
branch_tag Dl e l = record { kind = refl; block = refl; name_is = refl; void_is = refl; raw_is = refl; bytes = ascii_bytes (tag_of Dl) refl; other = refl; class = λ a b. refl; structural = λ a. (refl, refl) }
branch_tag Table e l = record { kind = refl; block = refl; name_is = refl; void_is = refl; raw_is = refl; bytes = ascii_bytes (tag_of Table) refl; other = refl; class = λ a b. refl; structural = λ a. (refl, refl) }
branch_tag Thead e l = record { kind = refl; block = refl; name_is = refl; void_is = refl; raw_is = refl; bytes = ascii_bytes (tag_of Thead) refl; other = refl; class = λ a b. refl; structural = λ a. (refl, refl) }
branch_tag Tbody e l = record { kind = refl; block = refl; name_is = refl; void_is = refl; raw_is = refl; bytes = ascii_bytes (tag_of Tbody) refl; other = refl; class = λ a b. refl; structural = λ a. (refl, refl) }
branch_tag Tfoot e l = record { kind = refl; block = refl; name_is = refl; void_is = refl; raw_is = refl; bytes = ascii_bytes (tag_of Tfoot) refl; other = refl; class = λ a b. refl; structural = λ a. (refl, refl) }
branch_tag Tr e l = record { kind = refl; block = refl; name_is = refl; void_is = refl; raw_is = refl; bytes = ascii_bytes (tag_of Tr) refl; other = refl; class = λ a b. refl; structural = λ a. (refl, refl) }
branch_tag InternalList e l = cc
branch_tag TransBlock e l = cc
branch_tag AlienBlock e l = cc
branch_tag Br e l = cc
branch_tag Img e l = cc
branch_tag Ref e l = cc
branch_tag TransInline e l = cc
branch_tag AlienInline e l = cc

pub record MarkTag (name : List ℕ) : Type 0 where
  pub inline : is_inline_tag name ≡ true
  pub name_is : is_tag_name name ≡ true
  pub void_is : is_void name ≡ false
  pub raw_is : is_raw name ≡ false

abbrev AllMarkTags : List (List ℕ) → Type 0
AllMarkTags [] = Unit {0}
AllMarkTags (n ∷ ns) = MarkTag n × AllMarkTags ns

annotations-MarkTags : AllMarkTags annotation_tags
unfolding is_void is_raw name_same is_plaintext is_letter
annotations-MarkTags = (
  record { inline = refl; name_is = refl; void_is = refl; raw_is = refl },
  (
    record { inline = refl; name_is = refl; void_is = refl; raw_is = refl },
    (
      record { inline = refl; name_is = refl; void_is = refl; raw_is = refl },
      (
        record { inline = refl; name_is = refl; void_is = refl; raw_is = refl },
        (
          record { inline = refl; name_is = refl; void_is = refl; raw_is = refl },
          (
            record { inline = refl; name_is = refl; void_is = refl; raw_is = refl },
            (
              record { inline = refl; name_is = refl; void_is = refl; raw_is = refl },
              (
                record { inline = refl; name_is = refl; void_is = refl; raw_is = refl },
                (
                  record { inline = refl; name_is = refl; void_is = refl; raw_is = refl },
                  (
                    record { inline = refl; name_is = refl; void_is = refl; raw_is = refl },
                    (
                      record { inline = refl; name_is = refl; void_is = refl; raw_is = refl },
                      (
                        record { inline = refl; name_is = refl; void_is = refl; raw_is = refl },
                        (
                          record { inline = refl; name_is = refl; void_is = refl; raw_is = refl },
                          (
                            record { inline = refl; name_is = refl; void_is = refl; raw_is = refl },
                            (
                              record { inline = refl; name_is = refl; void_is = refl; raw_is = refl },
                              (
                                record { inline = refl; name_is = refl; void_is = refl; raw_is = refl },
                                (
                                  record { inline = refl; name_is = refl; void_is = refl; raw_is = refl },
                                  (
                                    record { inline = refl; name_is = refl; void_is = refl; raw_is = refl },
                                    (
                                      record { inline = refl; name_is = refl; void_is = refl; raw_is = refl },
                                      (
                                        record { inline = refl; name_is = refl; void_is = refl; raw_is = refl },
                                        (
                                          record { inline = refl; name_is = refl; void_is = refl; raw_is = refl },
                                          (
                                            record { inline = refl; name_is = refl; void_is = refl; raw_is = refl },
                                            (
                                              record { inline = refl; name_is = refl; void_is = refl; raw_is = refl },
                                              (
                                                record { inline = refl; name_is = refl; void_is = refl; raw_is = refl },
                                                tt,
                                              ),
                                            ),
                                          ),
                                        ),
                                      ),
                                    ),
                                  ),
                                ),
                              ),
                            ),
                          ),
                        ),
                      ),
                    ),
                  ),
                ),
              ),
            ),
          ),
        ),
      ),
    ),
  ),
)

among_MarkTags : (ns : List (List ℕ)) → AllMarkTags ns → (name : List ℕ) → is_one_of ns name ≡ true → MarkTag name
among_MarkTags [] a name h = cc
among_MarkTags (n ∷ ns) a name h =
    elim (cases_Bool (bytes_eq n name)) [
      | inl e ↦ subst MarkTag (same_bytes n name e) a.0
      | inr e ↦ among_MarkTags ns a.1 name (sym (ap (λ b. b || is_one_of ns name) e) ∙ h)
    ]

pub mark_tag : (name : List ℕ) → is_annotation_tag name ≡ true → MarkTag name
mark_tag name h = among_MarkTags annotation_tags annotations-MarkTags name h

pub no_paragraph : (k : Kind) → is_among structural_kinds k ≡ true → may_hold k P ≡ false
no_paragraph Root e = cc
no_paragraph P e = cc
no_paragraph H1 e = cc
no_paragraph H2 e = cc
no_paragraph H3 e = cc
no_paragraph H4 e = cc
no_paragraph H5 e = cc
no_paragraph H6 e = cc
no_paragraph Pre e = cc
no_paragraph Section e = cc
no_paragraph Li e = cc
no_paragraph Dt e = cc
no_paragraph Dd e = cc
no_paragraph Blockquote e = cc
no_paragraph Div e = cc
no_paragraph Td e = cc
no_paragraph Th e = cc
no_paragraph Caption e = cc
no_paragraph InternalItem e = cc
no_paragraph Ul e = refl
no_paragraph Ol e = refl
no_paragraph Dl e = refl
no_paragraph Table e = refl
no_paragraph Thead e = refl
no_paragraph Tbody e = refl
no_paragraph Tfoot e = refl
no_paragraph Tr e = refl
no_paragraph InternalList e = refl
no_paragraph TransBlock e = cc
no_paragraph AlienBlock e = cc
no_paragraph Br e = cc
no_paragraph Img e = cc
no_paragraph Ref e = cc
no_paragraph TransInline e = cc
no_paragraph AlienInline e = cc

-- br and img
pub record LeafKind (k : Kind) : Type 0 where
  pub name_is : is_tag_name (tag_of k) ≡ true
  pub void_is : is_void (tag_of k) ≡ true
  pub raw_is : is_raw (tag_of k) ≡ false
  pub content : (ms : List Mark) → fit_of (Content ms) (tag_of k) Ended ≡ Leaf k
  pub flow : (parent : Kind) → fit_of (Flow parent) (tag_of k) Ended ≡ Leaf k
  pub inline : is_inline_leaf k ≡ true
  pub text : (w : Writer) (s : Start) → leaf_text w s k ≡ start_text (tag_of k) (canon_attrs (map attr_bytes s.head.attrs)) false

br-LeafKind : LeafKind Br
unfolding is_void is_raw name_same is_plaintext is_letter
br-LeafKind = record {
  name_is = refl;
  void_is = refl;
  raw_is = refl;
  content = λ ms. refl;
  flow = λ parent. refl;
  inline = refl;
  text = λ w s. ap (λ n. start_text n (canon_attrs (map attr_bytes s.head.attrs)) false) (ascii_bytes (tag_of Br) refl);
}

img-LeafKind : LeafKind Img
unfolding is_void is_raw name_same is_plaintext is_letter
img-LeafKind = record {
  name_is = refl;
  void_is = refl;
  raw_is = refl;
  content = λ ms. refl;
  flow = λ parent. refl;
  inline = refl;
  text = λ w s. ap (λ n. start_text n (canon_attrs (map attr_bytes s.head.attrs)) false) (ascii_bytes (tag_of Img) refl);
}

pub leaf_kind : (k : Kind) → (kind_same k Br || kind_same k Img) ≡ true → LeafKind k
leaf_kind k h =
    elim (cases_Bool (kind_same k Br)) [
      | inl e ↦ subst LeafKind (sym (same_true the_type tt k Br e)) br-LeafKind
      | inr e ↦ subst LeafKind (sym (same_true the_type tt k Img (sym (ap (λ b. b || kind_same k Img) e) ∙ h))) img-LeafKind
    ]
