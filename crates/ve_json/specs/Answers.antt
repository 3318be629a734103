-- The reply that an answer is.
use Rattle.std.specs.Prelude.{◌≤◌, length, slice_range, All}
use Rattle.model_items.specs.Plain.{plain_list, CitesWell}
use Rattle.model_world.specs.declared.reply.Reply.{Reply}
use Rattle.model_world.specs.declared.reply.Reply.TheVariants as reply
use Rattle.ve_json.specs.declared.answer.Answer.{Answer}
use Rattle.ve_json.specs.declared.answer.Answer.TheVariants as answer

abbrev pub reply_of : Answer → Reply
reply_of (answer.Length count) = reply.Length count
reply_of (answer.Page page) = reply.Page page
reply_of (answer.Items list store from to) = reply.Items (slice_range (plain_list store.now list.now.items) from to)
reply_of (answer.Tree words) = reply.Tree words
reply_of (answer.At kind from to class) = reply.At kind from to class
reply_of (answer.Offset at) = reply.Offset at
reply_of (answer.Told count patches) = reply.Told count patches
reply_of (answer.Refs rows) = reply.Refs rows
reply_of (answer.Caret anchor focus) = reply.Caret anchor focus
reply_of (answer.Sent entries) = reply.Sent entries
reply_of (answer.Served accepted total clash) = reply.Served accepted total clash
reply_of (answer.TookForeign entries dropped) = reply.TookForeign entries dropped
reply_of (answer.TookAck accepted) = reply.TookAck accepted
reply_of (answer.Grid rows columns cells) = reply.Grid rows columns cells
reply_of (answer.No refusal) = reply.No refusal
reply_of (answer.NoBatch at refusal) = reply.NoBatch at refusal

-- its items, where it has some, are a range of a list that cites values of their store
abbrev pub AnswerCites : Answer → Type 0
AnswerCites (answer.Items list store from to) = All (CitesWell store.now) list.now.items × (from ≤ to) × (to ≤ length list.now.items)
AnswerCites _ = Unit {0}
