use Rattle.ve_reader.proofs.ExtendLemmas.{extends_same}
use Rattle.ve_reader.proofs.put.put_char.Goals as goal

pub returns-in_err-marks-clause-extends : goal.returns-in_err-marks-clause-extends
returns-in_err-marks-clause-extends c = extends_same c.args.values.now c.marks_around.new.store c.in_err-marks.ensures.err
