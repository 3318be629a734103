use Rattle.ve_origin.proofs.origin.Origins.kept.Goals as goal

pub kept_after-requires-clause-known : goal.kept_after-requires-clause-known
kept_after-requires-clause-known c = c.nothing.ensures _ _ _
