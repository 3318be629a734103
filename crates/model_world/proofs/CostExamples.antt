-- How many steps lines may take, by computation.
use Rattle.std.specs.Prelude.{◌≡◌, ℕ, ◌+◌, List, [], ◌∷◌, codes, refl}
use Rattle.std.specs.Fmt.{digits}
use Rattle.std.specs.Str.{is_utf8}
use Rattle.model_page.proofs.OnLiterals.{page_on_literals}
use Rattle.model_world.specs.World.{World, Closed, reply}
use Rattle.model_world.specs.Cost.{cost}

-- lines in turn, each beside what it may take
abbrev Lines : Type 0
Lines = List (List ℕ × ℕ)

abbrev told : Lines → List ℕ
told [] = []
told ((line, steps) ∷ lines) = steps ∷ told lines

abbrev costs : World → Lines → List ℕ
costs w [] = []
costs w ((line, steps) ∷ lines) = cost w line ∷ costs (reply w line).1 lines

-- in a world without a page
abbrev Costs : Lines → Type 0
Costs lines = costs Closed lines ≡ told lines

-- A page of three nodes: the paragraph, its text and the internal list. So a tree has 40 at most.
-- So has a text that is put in, as it touches three: the text, the paragraph and the root.
changes : Costs
    ((codes "{\"do\":\"html\"}", 0)
    ∷ (codes "{\"do\":\"open\",\"page\":\"<p>\"}", 0)
    ∷ (codes "{\"do\":\"open\",\"page\":\"<p>ab</p>\",\"sites\":2}", 80)
    ∷ (codes "{\"do\":\"html\"}", 0)
    ∷ (codes "{\"do\":\"html\",\"site\":2}", 0)
    ∷ (codes "{\"do\":\"dance\"}", 0)
    ∷ (codes "{\"do\":\"text\",\"at\":2,\"text\":\"X\"}", 40)
    ∷ (codes "{\"do\":\"text\",\"at\":9,\"text\":\"X\"}", 0)
    ∷ (codes "{\"do\":\"apply\",\"ops\":[{\"remove\":0,\"insert\":[{\"open\":\"li\"},{\"close\":\"li\"}]},{\"retain\":7}]}", 0)
    ∷ (codes "{\"do\":\"indent\",\"at\":1}", 0)
    ∷ (codes "{\"do\":\"undo\"}", 40)
    ∷ (codes "{\"do\":\"undo\"}", 0)
    ∷ (codes "{\"do\":\"redo\"}", 40)
    ∷ [])
unfolding page_on_literals is_utf8 digits
changes = refl

-- each in place, beside a page without text; what was made before a refusal counts
batches : Costs
    ((codes "{\"do\":\"open\",\"page\":\"<p>ab</p>\"}", 40)
    ∷ (codes "{\"do\":\"batch\",\"cmds\":[{\"do\":\"text\",\"at\":2,\"text\":\"X\"}]}", 8 + 40)
    ∷ (codes "{\"do\":\"undo\"}", 40)
    ∷ (codes "{\"do\":\"batch\",\"cmds\":[{\"do\":\"text\",\"at\":2,\"text\":\"X\"},{\"do\":\"text\",\"at\":2,\"text\":\"Y\"}]}", 8 + (40 + 40))
    ∷ (codes "{\"do\":\"undo\"}", 8 + (40 + 40))
    ∷ (codes "{\"do\":\"redo\"}", 8 + (40 + 40))
    ∷ (codes "{\"do\":\"batch\",\"cmds\":[{\"do\":\"text\",\"at\":2,\"text\":\"X\"},{\"do\":\"remove\",\"from\":30,\"to\":31}]}", 8 + 40)
    ∷ (codes "{\"do\":\"batch\",\"cmds\":[]}", 0)
    ∷ [])
unfolding page_on_literals is_utf8 digits
batches = refl

typing : Costs
    ((codes "{\"do\":\"open\",\"page\":\"<p>ab</p>\"}", 40)
    ∷ (codes "{\"do\":\"select\",\"anchor\":2,\"focus\":2}", 0)
    ∷ (codes "{\"do\":\"type\",\"text\":\"X\"}", 40)
    ∷ (codes "{\"do\":\"select\",\"anchor\":2,\"focus\":3}", 0)
    ∷ (codes "{\"do\":\"type\",\"text\":\"Y\"}", 8 + (40 + 40))
    ∷ (codes "{\"do\":\"select\",\"anchor\":1,\"focus\":2}", 0)
    ∷ (codes "{\"do\":\"erase\",\"dir\":\"back\"}", 40)
    ∷ [])
unfolding page_on_literals is_utf8 digits
typing = refl

-- An entry taken, with one transaction. One for which a pending entry is dropped; one that brings
-- two entries; and the answer of the server.
taking : Costs
    ((codes "{\"do\":\"open\",\"page\":\"<p>abcd</p>\",\"sites\":2}", 80)
    ∷ (codes "{\"do\":\"text\",\"at\":1,\"text\":\"A\",\"site\":0}", 40)
    ∷ (codes "{\"do\":\"send\",\"site\":0}", 0)
    ∷ (codes "{\"do\":\"serve\",\"site\":0}", 0)
    ∷ (codes "{\"do\":\"take\",\"site\":1}", 40)
    ∷ (codes "{\"do\":\"take\",\"site\":1}", 0)
    ∷ (codes "{\"do\":\"remove\",\"from\":1,\"to\":4,\"site\":0}", 40)
    ∷ (codes "{\"do\":\"text\",\"at\":2,\"text\":\"X\",\"site\":1}", 40)
    ∷ (codes "{\"do\":\"take\",\"site\":0}", 0)
    ∷ (codes "{\"do\":\"send\",\"site\":0}", 0)
    ∷ (codes "{\"do\":\"serve\",\"site\":0}", 0)
    ∷ (codes "{\"do\":\"take\",\"site\":1}", 8 + (40 + 40))
    ∷ (codes "{\"do\":\"take\",\"site\":0}", 0)
    ∷ (codes "{\"do\":\"text\",\"at\":1,\"text\":\"B\",\"site\":0}", 40)
    ∷ (codes "{\"do\":\"text\",\"at\":1,\"text\":\"C\",\"site\":0}", 40)
    ∷ (codes "{\"do\":\"send\",\"site\":0}", 0)
    ∷ (codes "{\"do\":\"serve\",\"site\":0}", 0)
    ∷ (codes "{\"do\":\"take\",\"site\":1}", 8 + (40 + 40))
    ∷ [])
unfolding page_on_literals is_utf8 digits
taking = refl

-- a committed entry taken back; one under which a later one removed more; and one that no site has
-- seen
revoking : Costs
    ((codes "{\"do\":\"open\",\"page\":\"<p>ab</p>\"}", 40)
    ∷ (codes "{\"do\":\"text\",\"at\":1,\"text\":\"X\"}", 40)
    ∷ (codes "{\"do\":\"send\"}", 0)
    ∷ (codes "{\"do\":\"serve\"}", 0)
    ∷ (codes "{\"do\":\"take\"}", 0)
    ∷ (codes "{\"do\":\"revoke\",\"entry\":0}", 40)
    ∷ (codes "{\"do\":\"undo\"}", 40)
    ∷ (codes "{\"do\":\"revoke\",\"entry\":1}", 0)
    ∷ (codes "{\"do\":\"remove\",\"from\":1,\"to\":3}", 40)
    ∷ (codes "{\"do\":\"revoke\",\"entry\":0}", 0)
    ∷ [])
unfolding page_on_literals is_utf8 digits
revoking = refl
