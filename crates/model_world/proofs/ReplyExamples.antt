-- Replies, and their texts.
use Rattle.std.specs.Prelude.{◌≡◌, ℕ, List, [], ◌∷◌, codes, true, false, Some, None, encode_utf8_all, refl}
use Rattle.std.specs.Fmt.{digits}
use Rattle.ve_kinds.specs.declared.kind.Kind.TheVariants.{Root, P, Br, TransBlock, InternalList}
use Rattle.ve_base.specs.declared.attrs.Attr.{Attr}
use Rattle.ve_base.specs.declared.marks.Mark as base
use Rattle.ve_base.specs.declared.head.Head.{Head}
use Rattle.ve_base.specs.declared.head.Key.TheVariants.{Named, Auto}
use Rattle.model_items.specs.declared.offset_class.OffsetClass.TheVariants.{Inside}
use Rattle.model_items.specs.declared.plain_item.PlainItem.TheVariants.{Char, Opening, Closing}
use Rattle.model_spelling.specs.declared.scan_fault.ScanWhat.TheVariants.{DuplicateAttribute}
use Rattle.model_page.proofs.OnLiterals.{page_on_literals}
use Rattle.model_world.specs.declared.field.Field.TheVariants as field
use Rattle.model_world.specs.declared.shown.TreeWord.TheVariants as tree
use Rattle.model_world.specs.declared.refusal.HtmlWord.TheVariants as word
use Rattle.model_world.specs.declared.refusal.Refusal.TheVariants as refusal
use Rattle.model_world.specs.declared.reply.Reply.{Reply}
use Rattle.model_world.specs.declared.reply.Reply.TheVariants.{Length, Page, Items, Tree, At, Offset, Told, Refs, Caret, Sent, Served, TookForeign, TookAck, Grid, No, NoBatch}
use Rattle.model_world.specs.Spelled.{reply_text}

abbrev Reads : Reply → List ℕ → Type 0
Reads reply text = reply_text reply ≡ text

abbrev bold : base.Mark
bold = record { tag = codes "b"; attrs = [] }

abbrev head : List Attr → List ℕ → Head
head attrs raw = record { tag = []; attrs = attrs; raw = raw; reference = None; owner = false }

length : Reads (Length 4194304) (codes "ok 4194304")
unfolding page_on_literals digits
length = refl

page : Reads (Page (codes "<p>\"é\\</p>")) (encode_utf8_all (codes "ok \"<p>\\\"é\\\\</p>\""))
unfolding page_on_literals digits
page = refl

no_items : Reads (Items []) (codes "ok []")
unfolding page_on_literals digits
no_items = refl

runs : Reads (Items (Char 97 [] ∷ Char 98 [] ∷ Char 99 (bold ∷ []) ∷ Char 100 (bold ∷ []) ∷ Char 101 [] ∷ [])) (codes "ok [\"ab\",[\"cd\",[[\"b\",[]]]],\"e\"]")
unfolding page_on_literals digits
runs = refl

brackets : Reads (Items (Opening P (head (record { name = codes "id"; value = codes "x" } ∷ []) []) [] (10 ∷ []) (Some 7) true ∷ Closing P [] ∷ Opening TransBlock (head [] (codes "<hr>")) [] [] None false ∷ Closing InternalList (32 ∷ []) ∷ [])) (codes "ok [{\"attrs\":[[\"id\",\"x\"]],\"gen\":true,\"open\":\"p\",\"origin\":7,\"pre\":\"\\n\"},{\"close\":\"p\"},{\"open\":\"trans_block\",\"raw\":\"<hr>\"},{\"close\":\"internal_list\",\"pre\":\" \"}]")
unfolding page_on_literals digits
brackets = refl

tree_of_runs : Reads (Tree (tree.Begin Root ∷ tree.Begin P ∷ tree.Run 2 ∷ tree.Begin Br ∷ tree.End ∷ tree.Run 11 ∷ tree.End ∷ tree.End ∷ [])) (codes "ok (root (p 2 (br) 11))")
unfolding page_on_literals digits
tree_of_runs = refl

node : Reads (At Br 2 4 Inside) (codes "ok br 2 4 inside")
unfolding page_on_literals digits
node = refl

offset : Reads (Offset 9) (codes "ok 9")
unfolding page_on_literals digits
offset = refl

references : Reads (Refs (record { at = 2; key = record { group = []; key = Named (codes "n") }; number = 1; carrier = true; body_at = Some 11 } ∷ record { at = 7; key = record { group = codes "g"; key = Auto 3 }; number = 2; carrier = false; body_at = None } ∷ [])) (codes "ok [[2,\"\",\"n:n\",1,true,11],[7,\"g\",\"a:3\",2,false,null]]")
unfolding page_on_literals digits
references = refl

caret : Reads (Caret 3 1) (codes "ok 3 1")
unfolding page_on_literals digits
caret = refl

sent : Reads (Sent 2) (codes "ok 2")
unfolding page_on_literals digits
sent = refl

served : Reads (Served 1 1 None) (codes "ok 1 of 1")
unfolding page_on_literals digits
served = refl

served_with_conflict : Reads (Served 0 1 (Some ((1, 3), (2, 2)))) (codes "ok 0 of 1 conflict 1 3 2 2")
unfolding page_on_literals digits
served_with_conflict = refl

foreign : Reads (TookForeign 1 3) (codes "ok foreign 1 dropped 3")
unfolding page_on_literals digits
foreign = refl

acknowledged : Reads (TookAck 0) (codes "ok ack 0")
unfolding page_on_literals digits
acknowledged = refl

grid : Reads (Grid 1 2 (record { at = 3; row = 0; column = 0; rows = 1; columns = 2 } ∷ [])) (codes "ok 1 2 [[3,0,0,1,2]]")
unfolding page_on_literals digits
grid = refl

told : Reads (Told 7 (record { at = 2; removed = 0; inserted = 1 } ∷ record { at = 0; removed = 1; inserted = 1 } ∷ [])) (codes "ok 7 [[2,0,1],[0,1,1]]")
unfolding page_on_literals digits
told = refl

nothing_to_tell : Reads (Told 7 []) (codes "ok 7 []")
unfolding page_on_literals digits
nothing_to_tell = refl

empty_grid : Reads (Grid 0 0 []) (codes "ok 0 0 []")
unfolding page_on_literals digits
empty_grid = refl

bad_page : Reads (No (refusal.Html (word.Scan DuplicateAttribute) 10)) (codes "no html duplicate_attribute 10")
unfolding page_on_literals digits
bad_page = refl

deep_page : Reads (No (refusal.Html word.TooDeep 1600)) (codes "no html too_deep 1600")
unfolding page_on_literals digits
deep_page = refl

bad_member : Reads (No (refusal.BadCommand field.UnwrapOuter)) (codes "no bad_command unwrap_outer")
unfolding page_on_literals digits
bad_member = refl

no_place : Reads (No (refusal.NoPlace 11)) (codes "no place 11")
unfolding page_on_literals digits
no_place = refl

bad_batch : Reads (NoBatch 1 (refusal.BadRange 9 12)) (codes "no batch 1 bad_range 9 12")
unfolding page_on_literals digits
bad_batch = refl

revoke_conflict : Reads (No (refusal.RevokeConflict (1, 3) (1, 2))) (codes "no revoke_conflict 1 3 1 2")
unfolding page_on_literals digits
revoke_conflict = refl
