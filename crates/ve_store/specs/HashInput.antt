-- The input of a value's hash: a list of writes. Of attributes it has the digest alone, which long ones keep.
use Rattle.std.specs.Prelude.{ℕ, List, [], ◌++◌, Option, Some, None}
use Rattle.std.specs.List.{flat_map}
use Rattle.std.specs.Hash as fed
use Rattle.ve_base.specs.Digest.{text_input, digest_of}
use Rattle.ve_base.specs.declared.marks.Mark.{Mark}
use Rattle.ve_base.specs.declared.head.Key.{Key}
use Rattle.ve_base.specs.declared.head.Key.TheVariants.{Named, Auto}
use Rattle.ve_base.specs.declared.head.RefKey.{RefKey}
use Rattle.ve_base.specs.declared.head.Head.{Head}
use Rattle.ve_base.specs.declared.value.Value.{Value}
use Rattle.ve_base.specs.declared.value.Value.TheVariants as value

abbrev pub mark_input : Mark → List (List ℕ)
mark_input mark = text_input mark.tag ++ fed.u64 (digest_of mark.attrs)

abbrev pub marks_input : List Mark → List (List ℕ)
marks_input marks = flat_map mark_input marks

abbrev pub key_input : Key → List (List ℕ)
key_input (Named name) = text_input name
key_input (Auto number) = fed.u32 number

abbrev pub reference_input : Option RefKey → List (List ℕ)
reference_input None = []
reference_input (Some reference) = text_input reference.group ++ key_input reference.key

abbrev pub head_input : Head → List (List ℕ)
head_input head = text_input head.tag ++ fed.u64 (digest_of head.attrs) ++ text_input head.raw ++ reference_input head.reference

abbrev pub value_input : Value → List (List ℕ)
value_input (value.White text) = text_input text
value_input (value.Marks marks) = marks_input marks
value_input (value.Head head) = head_input head
