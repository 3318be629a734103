use Rattle.std.proofs.Common.{◌≡◌, fold, take}
use Rattle.std.specs.Hash.DefaultHasher as sip
use Rattle.ve_base.specs.Digest.{attrs_input}
use Rattle.ve_base.proofs.digested.feed.Given as goal

abbrev pub invariant-loop-attr : goal.invariant-loop-attr
invariant-loop-attr l = l.state ≡ fold sip.write l.initial.state (attrs_input (take l.attr-index l.attrs))
