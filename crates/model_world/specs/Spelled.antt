-- The text of a reply, without its newline.
use Rattle.std.specs.Prelude.{ℕ, List, [], ◌∷◌, ◌++◌, map, flat_map, codes, decimal, Option, Some, None}
use Rattle.serde_json.specs.Data.{Data}
use Rattle.serde_json.specs.Written.{compact_text}
use Rattle.model_world.specs.declared.shown.TreeWord.{TreeWord}
use Rattle.model_world.specs.declared.shown.TreeWord.TheVariants as tree
use Rattle.model_world.specs.declared.refusal.Refusal.{Refusal}
use Rattle.model_world.specs.declared.refusal.Refusal.TheVariants as refusal
use Rattle.model_world.specs.declared.reply.Reply.{Reply}
use Rattle.model_world.specs.declared.reply.Reply.TheVariants as reply
use Rattle.model_world.specs.Names.{field_name, kind_name, class_name, html_word}
use Rattle.model_world.specs.Shown.{json_text, json_list, items_shown, patch_shown, row_shown, cell_shown}

-- each number after a space
abbrev pub numbers : List ℕ → List ℕ
numbers [] = []
numbers (n ∷ ns) = 32 ∷ decimal n ++ numbers ns

-- a word, and numbers after it
abbrev pub with_numbers : List ℕ → List ℕ → List ℕ
with_numbers word ns = word ++ numbers ns

-- the word of a refusal, and its numbers
abbrev pub refusal_text : Refusal → List ℕ
refusal_text (refusal.LineTooLong len) = with_numbers (codes "line_too_long") (len ∷ [])
refusal_text refusal.BadJson = codes "bad_json"
refusal_text (refusal.BadCommand field) = codes "bad_command " ++ field_name field
refusal_text refusal.NotOpen = codes "not_open"
refusal_text (refusal.BadSite sites) = with_numbers (codes "bad_site") (sites ∷ [])
refusal_text (refusal.PageTooLong len) = with_numbers (codes "page_too_long") (len ∷ [])
refusal_text (refusal.Html word at) = codes "html " ++ with_numbers (html_word word) (at ∷ [])
refusal_text (refusal.TooDeep at) = with_numbers (codes "too_deep") (at ∷ [])
refusal_text (refusal.TooManyMarks at) = with_numbers (codes "too_many_marks") (at ∷ [])
refusal_text (refusal.TooManyItems count) = with_numbers (codes "too_many_items") (count ∷ [])
refusal_text refusal.StoreFull = codes "store_full"
refusal_text (refusal.BadRange from to) = with_numbers (codes "bad_range") (from ∷ to ∷ [])
refusal_text (refusal.BadOffset at) = with_numbers (codes "bad_offset") (at ∷ [])
refusal_text (refusal.NotContent at) = with_numbers (codes "not_content") (at ∷ [])
refusal_text (refusal.Edge at) = with_numbers (codes "edge") (at ∷ [])
refusal_text (refusal.NoPlace at) = with_numbers (codes "place") (at ∷ [])
refusal_text (refusal.BadDepth depth) = with_numbers (codes "bad_depth") (depth ∷ [])
refusal_text refusal.BadMark = codes "bad_mark"
refusal_text (refusal.NotWrapped at) = with_numbers (codes "not_wrapped") (at ∷ [])
refusal_text (refusal.NotBranch at) = with_numbers (codes "not_branch") (at ∷ [])
refusal_text (refusal.NotOpening at) = with_numbers (codes "not_opening") (at ∷ [])
refusal_text (refusal.BadAttr at) = with_numbers (codes "bad_attr") (at ∷ [])
refusal_text (refusal.BadOrigin origin) = with_numbers (codes "bad_origin") (origin ∷ [])
refusal_text (refusal.BadLength has needs) = with_numbers (codes "bad_length") (has ∷ needs ∷ [])
refusal_text (refusal.Unlawful at) = with_numbers (codes "unlawful") (at ∷ [])
refusal_text refusal.NothingToUndo = codes "nothing_to_undo"
refusal_text (refusal.AlreadyShared sent) = with_numbers (codes "already_shared") (sent ∷ [])
refusal_text refusal.NothingToRedo = codes "nothing_to_redo"
refusal_text (refusal.InFlight entries) = with_numbers (codes "in_flight") (entries ∷ [])
refusal_text refusal.NothingToSend = codes "nothing_to_send"
refusal_text refusal.NothingQueued = codes "nothing_queued"
refusal_text (refusal.NotTable at) = with_numbers (codes "not_table") (at ∷ [])
refusal_text (refusal.Crooked at) = with_numbers (codes "crooked") (at ∷ [])
refusal_text (refusal.BadRow row rows) = with_numbers (codes "bad_row") (row ∷ rows ∷ [])
refusal_text (refusal.BadColumn column columns) = with_numbers (codes "bad_column") (column ∷ columns ∷ [])
refusal_text (refusal.TooWide columns) = with_numbers (codes "too_wide") (columns ∷ [])
refusal_text (refusal.Ragged row) = with_numbers (codes "ragged") (row ∷ [])
refusal_text (refusal.Spanned at) = with_numbers (codes "spanned") (at ∷ [])
refusal_text (refusal.SpanFull at) = with_numbers (codes "span_full") (at ∷ [])
refusal_text (refusal.NotListItem at) = with_numbers (codes "not_list_item") (at ∷ [])
refusal_text (refusal.NoSibling at) = with_numbers (codes "no_sibling") (at ∷ [])
refusal_text (refusal.NotNested at) = with_numbers (codes "not_nested") (at ∷ [])
refusal_text (refusal.BadEntry entry seen) = with_numbers (codes "bad_entry") (entry ∷ seen ∷ [])
refusal_text (refusal.TakenBack entry by) = with_numbers (codes "taken_back") (entry ∷ by ∷ [])
refusal_text (refusal.RevokeConflict later reversal) =
    with_numbers (codes "revoke_conflict") (later.0 ∷ later.1 ∷ reversal.0 ∷ reversal.1 ∷ [])

-- a node is `(`, its kind, a space and a child for each child, `)`; a text node is its length
abbrev pub tree_word : TreeWord → List ℕ
tree_word (tree.Begin kind) = codes " (" ++ kind_name kind
tree_word (tree.Run count) = 32 ∷ decimal count
tree_word tree.End = codes ")"

abbrev pub clash_text : Option ((ℕ × ℕ) × (ℕ × ℕ)) → List ℕ
clash_text None = []
clash_text (Some clash) = with_numbers (codes " conflict") ((clash.0).0 ∷ (clash.0).1 ∷ (clash.1).0 ∷ (clash.1).1 ∷ [])

-- `ok` and JSON
abbrev pub ok_json : Data → List ℕ
ok_json json = codes "ok " ++ compact_text json

abbrev pub reply_text : Reply → List ℕ
reply_text (reply.Length count) = with_numbers (codes "ok") (count ∷ [])
reply_text (reply.Page page) = ok_json (json_text page)
reply_text (reply.Items items) = ok_json (items_shown items)
reply_text (reply.Tree words) = codes "ok" ++ flat_map tree_word words
reply_text (reply.At kind from to class) = codes "ok " ++ (with_numbers (kind_name kind) (from ∷ to ∷ []) ++ 32 ∷ class_name class)
reply_text (reply.Offset at) = with_numbers (codes "ok") (at ∷ [])
reply_text (reply.Told count patches) =
    with_numbers (codes "ok") (count ∷ []) ++ 32 ∷ compact_text (json_list (map patch_shown patches))
reply_text (reply.Refs rows) = ok_json (json_list (map row_shown rows))
reply_text (reply.Caret anchor focus) = with_numbers (codes "ok") (anchor ∷ focus ∷ [])
reply_text (reply.Sent entries) = with_numbers (codes "ok") (entries ∷ [])
reply_text (reply.Served accepted total clash) =
    with_numbers (codes "ok") (accepted ∷ []) ++ (with_numbers (codes " of") (total ∷ []) ++ clash_text clash)
reply_text (reply.TookForeign entries dropped) =
    with_numbers (codes "ok foreign") (entries ∷ []) ++ with_numbers (codes " dropped") (dropped ∷ [])
reply_text (reply.TookAck accepted) = with_numbers (codes "ok ack") (accepted ∷ [])
reply_text (reply.Grid rows columns cells) =
    with_numbers (codes "ok") (rows ∷ columns ∷ []) ++ 32 ∷ compact_text (json_list (map cell_shown cells))
reply_text (reply.No refusal) = codes "no " ++ refusal_text refusal
reply_text (reply.NoBatch at refusal) = with_numbers (codes "no batch") (at ∷ []) ++ 32 ∷ refusal_text refusal
