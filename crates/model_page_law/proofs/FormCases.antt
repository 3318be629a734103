-- The premises of the law are met: a list of the form, and the forest that spells its page.
use Rattle.std.specs.Prelude.{◌≡◌, true, false, List, [], ◌∷◌, None, codes, refl}
use Rattle.model_spelling.specs.Forest.{Forest, Nothing, Text, Void, Element, spelling, is_forest}
use Rattle.ve_kinds.specs.declared.kind.Kind.TheVariants.{P, Ul, Li, Br, InternalList}
use Rattle.ve_base.specs.declared.marks.Mark.{Mark}
use Rattle.model_items.specs.declared.plain_item.PlainItem.{PlainItem}
use Rattle.model_items.specs.declared.plain_item.PlainItem.TheVariants.{Char, Opening, Closing}
use Rattle.model_items.specs.Law.{Lawful}
use Rattle.ve_base.specs.Empty.{empty_head}
use Rattle.model_page.proofs.OnLiterals.{page_on_literals}
use Rattle.model_page.specs.PageItems.{Opened}
use Rattle.model_page_write.specs.Nodes.{carried_nodes, carried_items}
use Rattle.model_page_write.specs.PageText.{fresh, page_writer}
use Rattle.model_page_law.specs.Formed.{ArePlain, IsHead, AreFormed}
use Rattle.model_page_law.specs.WritesFresh.{KeepsNoneOf}

abbrev bold : Mark
bold = record { tag = codes "b"; attrs = [] }

abbrev some_items : List PlainItem
some_items =
    Opening Ul empty_head [] [] None false ∷ Opening Li empty_head [] (32 ∷ []) None false
    ∷ Opening P empty_head [] [] None true ∷ Char 97 [] ∷ Char 98 (bold ∷ []) ∷ Opening Br empty_head [] [] None false ∷ Closing Br [] ∷ Closing P []
    ∷ Closing Li [] ∷ Closing Ul [] ∷ Opening InternalList empty_head [] [] None false ∷ Closing InternalList [] ∷ []

lawful : Lawful some_items
lawful = refl

none_plain : ArePlain []
none_plain = record { named = tt; free = refl }

head_none : IsHead empty_head
head_none = record { alone = refl; attrs = none_plain }

formed : AreFormed some_items
unfolding page_on_literals
formed = (
  record { head = head_none; white = refl; leaf = λ l. cc; branch = λ l. refl; item = refl; list = λ l. cc },
  (
    record { head = head_none; white = refl; leaf = λ l. cc; branch = λ l. refl; item = refl; list = λ l. cc },
    (
      record { head = head_none; white = refl; leaf = λ l. cc; branch = λ l. refl; item = refl; list = λ l. cc },
      (
        (refl, tt),
        (
          (refl, (record { tag = refl; chars = refl; attrs = none_plain }, tt)),
          (
            record { head = head_none; white = refl; leaf = λ l. (refl, tt, refl); branch = λ l. cc; item = refl; list = λ l. cc },
            (
              record { white = refl; none = λ l. refl },
              (
                record { white = refl; none = λ l. refl },
                (
                  record { white = refl; none = λ l. refl },
                  (
                    record { white = refl; none = λ l. refl },
                    (
                      record { head = head_none; white = refl; leaf = λ l. cc; branch = λ l. refl; item = refl; list = λ l. refl },
                      (
                        record { white = refl; none = λ l. refl },
                        tt,
                      ),
                    ),
                  ),
                ),
              ),
            ),
          ),
        ),
      ),
    ),
  ),
)

abbrev its_forest : Forest
its_forest =
    Element (codes "ul") [] (Text (codes " ") (Element (codes "li") [] (Text (codes "a") (Element (codes "b") [] (Text (codes "b") Nothing) (Void (codes "br") [] false Nothing))) Nothing)) Nothing

spelled : is_forest 200 its_forest ≡ true
unfolding page_on_literals
spelled = refl

spells : spelling its_forest ≡ fresh some_items
unfolding page_on_literals
spells = refl

-- no node has an origin, so none is kept of any page
none_kept : (o : Opened) → KeepsNoneOf (page_writer o) (carried_nodes (carried_items some_items))
none_kept o = (refl, (refl, (refl, (refl, tt, tt), tt), tt), (refl, tt, tt))
