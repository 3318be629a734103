-- What a list of attributes is told apart by before it is compared: 64 bits of all its texts, by SipHash, which nobody computes backwards.
-- So who writes a page can't make many lists of one digest.
use Rattle.std.specs.Prelude.{ℕ, List, ◌++◌, fold}
use Rattle.std.specs.List.{flat_map}
use Rattle.std.specs.Str.{encode_utf8_all}
use Rattle.std.specs.Hash as fed
use Rattle.std.specs.Hash.DefaultHasher as sip
use Rattle.ve_base.specs.declared.attrs.Attr.{Attr}

-- the writes of a text to a hasher
abbrev pub text_input : List ℕ → List (List ℕ)
text_input text = fed.str (encode_utf8_all text)

abbrev pub attr_input : Attr → List (List ℕ)
attr_input attr = text_input attr.name ++ text_input attr.value

abbrev pub attrs_input : List Attr → List (List ℕ)
attrs_input attrs = flat_map attr_input attrs

abbrev pub digest_of : List Attr → ℕ
digest_of attrs = sip.finish (fold sip.write sip.initial (attrs_input attrs))
