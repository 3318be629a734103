use Rattle.ve_reader.proofs.ExtendLemmas.{extends_same}
use Rattle.ve_reader.proofs.put.put_closing.Goals as goal

pub returns-in_err-pre-clause-extends : goal.returns-in_err-pre-clause-extends
returns-in_err-pre-clause-extends c = extends_same c.args.values.now c.cite_white.new.store c.in_err-pre.ensures.err
