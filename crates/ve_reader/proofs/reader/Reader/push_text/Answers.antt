use Rattle.ve_reader.proofs.ReadLemmas.{text_pushed, on_ok_of}
use Rattle.ve_reader.proofs.reader.Reader.push_text.Goals as goal

pub returns : goal.returns
returns c =
    text_pushed c.self.inside.purpose c.self.inside.depth c.self.inside.rows.items c.self.inside.owners c.self.inside.draft c.push_text.new.draft c.args.spelled.now c.args.self.now
    (on_ok_of c.push_text.result c.is_err.result c.is_err.ensures.value c.if-is_err.false c.push_text.ensures)
    c.self.view_is
