-- Worked scripts by computation: selections, carets, typing, and where text may stand nearby.
use Rattle.std.specs.Prelude.{[], ◌∷◌, codes, refl, encode_utf8_all}
use Rattle.std.specs.Fmt.{digits}
use Rattle.std.specs.Str.{is_utf8}
use Rattle.unicode_segmentation.proofs.Computing.{unicode_segmentation}
use Rattle.model_page.proofs.OnLiterals.{page_on_literals}
use Rattle.model_world.proofs.Scripts.{Answered}

-- a letter with an accent is one cluster, and a no-break space is written as it was
clusters : Answered
    ((encode_utf8_all (codes "{\"do\":\"open\",\"page\":\"<p>éx&nbsp;y</p>\"}"), codes "ok 9")
    ∷ (codes "{\"do\":\"select\",\"anchor\":3,\"focus\":3}", codes "ok 3 3")
    ∷ (codes "{\"do\":\"erase\",\"dir\":\"back\"}", codes "ok 7")
    ∷ (codes "{\"do\":\"caret\"}", codes "ok 1 1")
    ∷ (codes "{\"do\":\"html\"}", codes "ok \"<p>x&nbsp;y</p>\"")
    ∷ (codes "{\"do\":\"type\",\"text\":\"zz\"}", codes "ok 9")
    ∷ (codes "{\"do\":\"caret\"}", codes "ok 3 3")
    ∷ (codes "{\"do\":\"html\"}", codes "ok \"<p>zzx&nbsp;y</p>\"")
    ∷ [])
unfolding page_on_literals is_utf8 digits unicode_segmentation
clusters = refl

-- a raw no-break space gives the same items, and is written as a reference once its paragraph
-- changed
no_break_space : Answered
    ((codes "{\"do\":\"open\",\"page\":\"<p>e\\u0301x\\u00a0y</p>\"}", codes "ok 9")
    ∷ (codes "{\"do\":\"select\",\"anchor\":3,\"focus\":3}", codes "ok 3 3")
    ∷ (codes "{\"do\":\"erase\",\"dir\":\"back\"}", codes "ok 7")
    ∷ (codes "{\"do\":\"caret\"}", codes "ok 1 1")
    ∷ (codes "{\"do\":\"html\"}", codes "ok \"<p>x&nbsp;y</p>\"")
    ∷ [])
unfolding page_on_literals is_utf8 digits unicode_segmentation
no_break_space = refl

-- words, the edge of a paragraph, and an offset outside of every paragraph
words_and_edges : Answered
    ((codes "{\"do\":\"open\",\"page\":\"<p>ab cd</p>\"}", codes "ok 9")
    ∷ (codes "{\"do\":\"select\",\"anchor\":1,\"focus\":1}", codes "ok 1 1")
    ∷ (codes "{\"do\":\"move\",\"dir\":\"ahead\",\"by\":\"word\"}", codes "ok 3 3")
    ∷ (codes "{\"do\":\"select\",\"anchor\":1,\"focus\":1}", codes "ok 1 1")
    ∷ (codes "{\"do\":\"move\",\"dir\":\"back\"}", codes "no edge 1")
    ∷ (codes "{\"do\":\"select\",\"anchor\":0,\"focus\":0}", codes "ok 0 0")
    ∷ (codes "{\"do\":\"move\",\"dir\":\"ahead\"}", codes "no not_content 0")
    ∷ [])
unfolding page_on_literals is_utf8 digits unicode_segmentation
words_and_edges = refl

-- the anchor stays where it is kept, the selection is erased and typed over, and it cannot end
-- inside a leaf
kept_anchor : Answered
    ((codes "{\"do\":\"open\",\"page\":\"<p>ab<br>cd</p>\"}", codes "ok 10")
    ∷ (codes "{\"do\":\"select\",\"anchor\":4,\"focus\":1}", codes "no bad_offset 4")
    ∷ (codes "{\"do\":\"select\",\"anchor\":11,\"focus\":4}", codes "no bad_offset 11")
    ∷ (codes "{\"do\":\"select\",\"anchor\":1,\"focus\":1}", codes "ok 1 1")
    ∷ (codes "{\"do\":\"move\",\"dir\":\"ahead\",\"keep\":true}", codes "ok 1 2")
    ∷ (codes "{\"do\":\"move\",\"dir\":\"ahead\",\"keep\":true}", codes "ok 1 3")
    ∷ (codes "{\"do\":\"move\",\"dir\":\"ahead\",\"keep\":true}", codes "ok 1 5")
    ∷ (codes "{\"do\":\"type\",\"text\":\"x\"}", codes "ok 7")
    ∷ (codes "{\"do\":\"caret\"}", codes "ok 2 2")
    ∷ (codes "{\"do\":\"html\"}", codes "ok \"<p>xcd</p>\"")
    ∷ (codes "{\"do\":\"undo\"}", codes "ok 10")
    ∷ (codes "{\"do\":\"html\"}", codes "ok \"<p>ab<br>cd</p>\"")
    ∷ [])
unfolding page_on_literals is_utf8 digits unicode_segmentation
kept_anchor = refl

-- text typed outside of every paragraph stands in a new one, and the caret after its last character
typing_between : Answered
    ((codes "{\"do\":\"open\",\"page\":\"<p>ab</p>\"}", codes "ok 6")
    ∷ (codes "{\"do\":\"select\",\"anchor\":0,\"focus\":0}", codes "ok 0 0")
    ∷ (codes "{\"do\":\"type\",\"text\":\"x\"}", codes "ok 9")
    ∷ (codes "{\"do\":\"caret\"}", codes "ok 2 2")
    ∷ (codes "{\"do\":\"html\"}", codes "ok \"<p>x</p><p>ab</p>\"")
    ∷ [])
unfolding page_on_literals is_utf8 digits unicode_segmentation
typing_between = refl

-- a content offset is its own nearest; from inside a leaf and from among nodes either side is told, and none beyond the last
near_places : Answered
    ((codes "{\"do\":\"near\",\"at\":0,\"dir\":\"back\"}", codes "no not_open")
    ∷ (codes "{\"do\":\"open\",\"page\":\"<p>a<br>b</p><ul><li>c</li></ul>\"}", codes "ok 15")
    ∷ (codes "{\"do\":\"near\",\"at\":1,\"dir\":\"back\"}", codes "ok 1")
    ∷ (codes "{\"do\":\"near\",\"at\":1,\"dir\":\"ahead\"}", codes "ok 1")
    ∷ (codes "{\"do\":\"near\",\"at\":3,\"dir\":\"back\"}", codes "ok 2")
    ∷ (codes "{\"do\":\"near\",\"at\":3,\"dir\":\"ahead\"}", codes "ok 4")
    ∷ (codes "{\"do\":\"near\",\"at\":6,\"dir\":\"back\"}", codes "ok 5")
    ∷ (codes "{\"do\":\"near\",\"at\":6,\"dir\":\"ahead\"}", codes "ok 9")
    ∷ (codes "{\"do\":\"near\",\"at\":0,\"dir\":\"back\"}", codes "no edge 0")
    ∷ (codes "{\"do\":\"near\",\"at\":11,\"dir\":\"ahead\"}", codes "no edge 11")
    ∷ (codes "{\"do\":\"near\",\"at\":15,\"dir\":\"back\"}", codes "ok 10")
    ∷ (codes "{\"do\":\"near\",\"at\":16,\"dir\":\"back\"}", codes "no bad_offset 16")
    ∷ (codes "{\"do\":\"near\",\"at\":16,\"dir\":\"up\"}", codes "no bad_command dir")
    ∷ (codes "{\"do\":\"caret\"}", codes "ok 0 0")
    ∷ [])
unfolding page_on_literals is_utf8 digits
near_places = refl
