use Rattle.model_spelling.proofs.Proved.{law_only}
use Rattle.ve_read.proofs.pages.read_body.Goals as goal

pub returns-clause-ok : goal.returns-clause-ok
returns-clause-ok c =
    let found = c.in-Ok.ensures.found in
    record {
      spelled = (law_only c.args.text.now found.0 found.1).0;
      within = c.in_ok-reader.ensures.limit;
      items = c.in_ok-reader.ensures.items;
      rows = c.in_ok-reader.ensures.rows;
    }
