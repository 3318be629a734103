-- All parts of a repair, put together.
use Rattle.std.proofs.Common.{◌≡◌, ℕ, Option, List, ◌∷◌, ◌++◌, map, sym, ap, ◌∙◌, subst}
use Rattle.model_items.specs.declared.plain_item.PlainItem.{PlainItem}
use Rattle.ve_arena.specs.declared.node.NodeId.{NodeId}
use Rattle.ve_arena.specs.declared.node.ArenaNode.{ArenaNode}
use Rattle.ve_tree.specs.IsTree.{IsTree}
use Rattle.ve_tree.specs.Links.{AllApart}
use Rattle.ve_tree.specs.Named.{node_numbers}
use Rattle.ve_repair.specs.Work.{Step}
use Rattle.ve_repair.specs.Tokens.{Token, old_side, new_side, puts, drops}
use Rattle.ve_repair.specs.Spelled.{Sign, token_of, AllFrom}
use Rattle.ve_repair.specs.Ready.{nums}
use Rattle.ve_repair.specs.Numbers.{NumbersStand}
use Rattle.ve_repair.specs.Whole.{script_of, IsCarriedOut, ChangeRepairs}
use Rattle.ve_repair.specs.Repair.{IsRepair}
use Rattle.ve_repair.specs.Acts.{Act}
use Rattle.ve_repair.specs.Changed.{IsChangeOf, HasForest}
use Rattle.ve_repair.proofs.ReadyLemmas.{nums-tokens}
use Rattle.ve_repair.proofs.NumberLemmas.{numbers_are_new}
use Rattle.ve_repair.proofs.SizeLemmas.{sizes_label}
use Rattle.ve_repair.proofs.RepairLemmas.{repair_gives_tree}

-- what is carried out is a repair
pub change_is_repair : (supply : ℕ → ℕ) (root : NodeId) (old new : List (Option ArenaNode)) (items others : List PlainItem) (tree : IsTree old root items) (lefts ss rights : List Sign) (acts : List Act)
    (change : IsChangeOf tree.named lefts ss rights acts others) (forest : HasForest supply tree.named lefts ss rights acts others) →
    AllApart (puts (script_of supply acts ss)) → AllFrom (puts (script_of supply acts ss)) (root.0 ∷ node_numbers tree.named) →
    IsCarriedOut root lefts rights (script_of supply acts ss) old new forest.named others →
    IsRepair root (map token_of lefts) (script_of supply acts ss) (map token_of rights) old new items others tree forest.named
change_is_repair supply root old new items others tree lefts ss rights acts change forest made from carried =
    record {
      old_tokens = forest.old_tokens;
      new_tokens = forest.new_tokens;
      lawful = change.lawful;
      spells = forest.spells;
      apart = subst (λ ns. AllApart (root.0 ∷ ns)) new_nums stand.apart;
      free = stand.free;
      root_free = stand.root_free;
      gone = subst (λ ns. AllFrom (drops script) (root.0 ∷ ns)) new_nums stand.gone;
      links = carried.links;
      labelled = sizes_label new forest.named carried.sorts carried.lengths;
      root_labelled = carried.root_labelled;
      only = carried.only;
    }
  where
    left : List Token
    left = map token_of lefts

    right : List Token
    right = map token_of rights

    script : List Step
    script = script_of supply acts ss

    old_nums : node_numbers tree.named ≡ nums (left ++ old_side script right)
    old_nums = sym (nums-tokens tree.named) ∙ ap nums forest.old_tokens

    new_nums : nums (left ++ new_side script right) ≡ node_numbers forest.named
    new_nums = sym (ap nums forest.new_tokens) ∙ nums-tokens forest.named

    stand : NumbersStand root.0 left right script
    stand = numbers_are_new root.0 left right script
        (subst (λ ns. AllApart (root.0 ∷ ns)) old_nums tree.apart) made (subst (λ ns. AllFrom (puts script) (root.0 ∷ ns)) old_nums from)

pub change_repairs : ChangeRepairs
change_repairs supply root old new items others tree lefts ss rights acts change forest made from carried =
    repair_gives_tree root (map token_of lefts) (map token_of rights) (script_of supply acts ss) old new items others tree forest.named
    (change_is_repair supply root old new items others tree lefts ss rights acts change forest made from carried)
