use Rattle.ve_build_shape.proofs.remark.marks_of.Goals as goal

pub marks_at-requires : goal.marks_at-requires
marks_at-requires c = (c.marks_id.ensures c.args.store.now).1 c.requires
