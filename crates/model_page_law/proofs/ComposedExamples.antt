-- Composed texts, by computation.
use Rattle.std.specs.Prelude.{◌≡◌, ℕ, false, List, [], ◌∷◌, ◌++◌, Some, None, codes, refl}
use Rattle.serde_json.specs.Data.{string}
use Rattle.serde_json.specs.Find.{get_member}
use Rattle.ve_kinds.specs.declared.kind.Kind.TheVariants.{Ref}
use Rattle.ve_base.specs.declared.head.Key.TheVariants.{Named}
use Rattle.model_page.specs.DataMw.{reference_of, composed_mw}
use Rattle.model_page.proofs.OnLiterals.{page_on_literals}
use Rattle.model_page_write.specs.Nodes.{Start}
use Rattle.model_page_write.specs.Written.{Writer, ref_text}
use Rattle.model_page_law.specs.Composed.{body_in}

-- with spaces, a list, and an identifier in the body
abbrev named : List ℕ
named = codes "{\"name\": \"ref\", \"attrs\": {\"name\": \"n\", \"group\": \"g\"}, \"n\": [true, null], \"body\": {\"id\": \"b\", \"html\": \"old\"}}"

-- U+00E9 in quotes, in an element
abbrev html : List ℕ
html = codes "<b id=\"x\">" ++ 195 ∷ 169 ∷ codes "</b>"

abbrev composed : List ℕ
composed = codes "{\"attrs\":{\"group\":\"g\",\"name\":\"n\"},\"body\":{\"html\":\"<b id=\\\"x\\\">" ++ 195 ∷ 169 ∷ codes "</b>\",\"id\":\"b\"},\"n\":[true,null],\"name\":\"ref\"}"

is_composed : composed_mw named (Some html) ≡ composed
unfolding page_on_literals
is_composed = refl

owns : reference_of composed ≡ Some (record { group = codes "g"; name = Some (codes "n"); html = Some html })
unfolding page_on_literals
owns = refl

keeps : get_member (codes "id") (body_in composed) ≡ Some (string (codes "b"))
unfolding page_on_literals
keeps = refl

-- a text that nothing spells
barred : reference_of (composed_mw named (Some (codes "<b>"))) ≡ None
unfolding page_on_literals
barred = refl

-- a use of the name, and what has no name
reuses : reference_of (composed_mw named None) ≡ Some (record { group = codes "g"; name = Some (codes "n"); html = None })
unfolding page_on_literals
reuses = refl

nameless : reference_of (composed_mw (codes "{\"body\":{\"html\":\"x\"}}") None) ≡ None
unfolding page_on_literals
nameless = refl

-- ---- a reference that is written with a body

abbrev reference : Start
reference = record {
  kind = Ref;
  head = record {
    tag = codes "sup";
    attrs = record { name = codes "id"; value = codes "r" } ∷ record { name = codes "data-mw"; value = codes "{\"attrs\": {\"name\": \"n\"}}" } ∷ [];
    raw = codes "[1]";
    reference = Some (record { group = []; key = Named (codes "n") });
    owner = false;
  };
  marks = [];
  pre = [];
  origin = None;
  generated = false;
  body = Some (record { at = 5; items = []; pre = [] });
}

-- whose body's text is this
abbrev writer : Writer
writer = record { original = λ start items. None; html = λ body. codes "<i>x</i>" }

is_written : ref_text writer reference ≡ codes "<sup id=\"r\" data-mw=\"{&quot;attrs&quot;:{&quot;name&quot;:&quot;n&quot;},&quot;body&quot;:{&quot;html&quot;:&quot;&lt;i&gt;x&lt;/i&gt;&quot;}}\">[1]</sup>"
unfolding page_on_literals
is_written = refl
