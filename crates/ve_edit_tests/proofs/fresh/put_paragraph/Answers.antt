use Rattle.std.proofs.Common.{◌≡◌, sym, subst, true}
use Rattle.model_items.specs.Law.{Lawful}
use Rattle.model_items.specs.Plain.{plain_list}
use Rattle.model_page.specs.Editable.{all_refer}
use Rattle.ve_edit_tests.proofs.fresh.put_paragraph.Goals as goal

pub write_fresh-requires-clause-refers : goal.write_fresh-requires-clause-refers
write_fresh-requires-clause-refers c = subst (λ values. all_refer (plain_list values c.in_ok-list.list.items) ≡ true) (sym c.new-store.ensures) c.in_ok-list.ensures.refers

pub write_fresh-requires-clause-lawful : goal.write_fresh-requires-clause-lawful
write_fresh-requires-clause-lawful c = subst (λ values. Lawful (plain_list values c.in_ok-list.list.items)) (sym c.new-store.ensures) c.in_ok-list.ensures.lawful
