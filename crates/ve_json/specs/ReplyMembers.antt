-- The members of an object round one that always stands there: those before it end in a comma, and
-- those after it begin with one.
use Rattle.std.specs.Prelude.{ℕ, Bool, true, false, List, [], ◌∷◌, ◌++◌, codes, encode_utf8_all, Option, Some, None, option_map}
use Rattle.json.specs.Print.{quoted}
use Rattle.serde_json.specs.Data.{Data, boolean, string}
use Rattle.serde_json.specs.Written.{compact_text}
use Rattle.ve_base.specs.declared.attrs.Attr.{Attr}
use Rattle.ve_base.specs.declared.marks.Mark.{Mark}
use Rattle.ve_base.specs.declared.head.Head.{Head}
use Rattle.ve_base.specs.declared.head.RefKey.{RefKey}
use Rattle.ve_kinds.specs.declared.kind.Kind.{Kind}
use Rattle.model_world.specs.Names.{kind_name}
use Rattle.model_world.specs.Shown.{json_text, json_number, attrs_shown, marks_shown, key_shown, key_text}

abbrev pub member_text : List ℕ → Data → List ℕ
member_text name value = quoted name ++ 58 ∷ compact_text value

abbrev pub member_and_comma : List ℕ → Option Data → List ℕ
member_and_comma name None = []
member_and_comma name (Some value) = member_text name value ++ 44 ∷ []

abbrev pub comma_and_member : List ℕ → Option Data → List ℕ
comma_and_member name None = []
comma_and_member name (Some value) = 44 ∷ member_text name value

-- a string that is shown where it is not empty; it is its bytes
abbrev pub some_string : List ℕ → Option Data
some_string [] = None
some_string (b ∷ bytes) = Some (string (b ∷ bytes))

abbrev pub some_attrs : List Attr → Option Data
some_attrs [] = None
some_attrs (a ∷ attrs) = Some (attrs_shown (a ∷ attrs))

abbrev pub some_marks : List Mark → Option Data
some_marks [] = None
some_marks (m ∷ marks) = Some (marks_shown (m ∷ marks))

abbrev pub some_flag : Bool → Option Data
some_flag false = None
some_flag true = Some (boolean true)

-- the members after the kind of an opening
abbrev pub later_text : Head → (pre : List ℕ) → (origin : Option ℕ) → List ℕ
later_text head pre origin =
    comma_and_member (codes "origin") (option_map json_number origin)
    ++ (comma_and_member (codes "owner") (some_flag head.owner)
    ++ (comma_and_member (codes "pre") (some_string pre)
    ++ (comma_and_member (codes "raw") (some_string (encode_utf8_all head.raw))
    ++ (comma_and_member (codes "ref") (option_map key_shown head.reference)
    ++ comma_and_member (codes "tag") (some_string (encode_utf8_all head.tag))))))

-- an opening whose whitespace has these bytes
abbrev pub opening_json : Kind → Head → List Mark → (pre : List ℕ) → (origin : Option ℕ) → (generated : Bool) → List ℕ
opening_json kind head marks pre origin generated =
    123
    ∷ member_and_comma (codes "attrs") (some_attrs head.attrs)
    ++ (member_and_comma (codes "gen") (some_flag generated)
    ++ (member_and_comma (codes "marks") (some_marks marks)
    ++ (member_text (codes "open") (json_text (kind_name kind)) ++ (later_text head pre origin ++ 125 ∷ []))))

abbrev pub closing_json : Kind → (pre : List ℕ) → List ℕ
closing_json kind pre =
    123 ∷ member_text (codes "close") (json_text (kind_name kind)) ++ (comma_and_member (codes "pre") (some_string pre) ++ 125 ∷ [])

-- a group and a key, with a comma between them
abbrev pub group_and_key : RefKey → List ℕ
group_and_key key = quoted (encode_utf8_all key.group) ++ 44 ∷ quoted (encode_utf8_all (key_text key.key))
