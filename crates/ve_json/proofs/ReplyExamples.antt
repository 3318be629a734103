-- Replies, as they are spelled.
use Rattle.std.proofs.Common.{◌≡◌, codes, refl}
use Rattle.std.specs.Fmt.{digits}
use Rattle.serde_json.proofs.OnLiterals.{serde_json_on_literals}
use Rattle.model_world.specs.declared.field.Field.TheVariants.{At}
use Rattle.model_world.specs.declared.refusal.Refusal.TheVariants.{BadCommand, BadOffset}
use Rattle.model_world.specs.declared.reply.Reply.TheVariants.{Length, Page, No}
use Rattle.model_world.specs.Spelled.{reply_text}

length : reply_text (Length 4194304) ≡ codes "ok 4194304"
unfolding digits
length = refl

page : reply_text (Page (codes "<p>a\"b\\</p>")) ≡ codes "ok \"<p>a\\\"b\\\\</p>\""
unfolding serde_json_on_literals
page = refl

refused : reply_text (No (BadOffset 11)) ≡ codes "no bad_offset 11"
unfolding digits
refused = refl

ill_formed : reply_text (No (BadCommand At)) ≡ codes "no bad_command at"
ill_formed = refl
