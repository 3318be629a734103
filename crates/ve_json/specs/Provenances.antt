-- Where an opening comes from, as the model has it.
use Rattle.model_world.specs.ItemWords as words
use Rattle.ve_json.specs.declared.provenance.Provenance.{Provenance}

abbrev pub meant : Provenance → words.Provenance
meant p = record { origin = p.origin; generated = p.generated }
