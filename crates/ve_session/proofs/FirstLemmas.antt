-- The borrowed page that was first read, over a store that begins with the first one.
use Rattle.std.proofs.Common.{◌≡◌, ◌<◌, ℕ, List, length, drop, ap, subst, sym, Some}
use Rattle.ve_base.specs.declared.value.Value.{Value}
use Rattle.model_items.specs.declared.plain_item.PlainItem.{PlainItem}
use Rattle.model_items.specs.Plain.{plain_list}
use Rattle.model_page.specs.References.{table}
use Rattle.ve_write.specs.Originals.{opened_over, origin_of, IsFirst}
use Rattle.ve_origin.specs.Kept.{IsNodeRange}
use Rattle.ve_origin.specs.Origins.{FirstRead}
use Rattle.ve_tx.specs.Making.{Extends}
use Rattle.ve_tx.proofs.ValuesLemmas as grown

pub first_same : (old new : List Value) (o : FirstRead) → Extends old new → IsFirst old o → plain_list new o.items ≡ plain_list old o.items
first_same old new o extends first = grown.list-extended old new extends o.items first.cites

pub page_same : (old new : List Value) (o : FirstRead) → Extends old new → IsFirst old o → opened_over new o ≡ opened_over old o
page_same old new o extends first = ap (λ items. record (opened_over old o) { items = items }) (first_same old new o extends first)

pub first_grown : (old new : List Value) (o : FirstRead) → Extends old new → IsFirst old o → IsFirst new o
first_grown old new o extends first =
    let back = sym (first_same old new o extends first) in record {
      cites = grown.all-extended old new extends o.items first.cites;
      ranges = λ k row found. subst (λ items. IsNodeRange items k row.from row.to) back (first.ranges k row found);
      refs = subst (λ items. o.refs ≡ table items) back first.refs;
      numbered = subst (λ (items : List PlainItem). (at k : ℕ) → origin_of (drop at items) ≡ Some k → k < length o.rows) back first.numbered;
    }
