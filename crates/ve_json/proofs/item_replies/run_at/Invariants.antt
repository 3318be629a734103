use Rattle.std.proofs.Common.{◌≡◌, ◌≤◌, ◌+◌, ◌++◌, length, drop}
use Rattle.model_items.specs.Plain.{marks_in, value_at}
use Rattle.model_edit.specs.Insert.{text_pieces}
use Rattle.ve_json.specs.Runs.{plain_before}
use Rattle.ve_json.proofs.item_replies.run_at.Given as goal

abbrev pub invariant-loop-end : goal.invariant-loop-end
invariant-loop-end l =
    let items = plain_before l.to l.store l.list.items in
    record {
      within : l.end ≤ l.to;
      run : drop l.at items ≡ text_pieces (marks_in (value_at l.store l.cited)) l.text ++ drop l.end items;
      count : l.at + length l.text ≡ l.end;
    }
