-- Worked examples of the definitions.
use Rattle.std.specs.Prelude.{◌≡◌, [], ◌∷◌, codes, refl}
use denote.Param.Send.{IsSend, IsSync}
use Rattle.ve_base.specs.declared.attrs.Attr.{Attr}
use Rattle.ve_base.specs.contracts.attrs.Attrs.{the_row}
use Rattle.ve_base.proofs.attrs.Attrs.TheSendSync.{the_send, the_sync}
use Rattle.std.specs.Str.{encode_utf8_all}
use Rattle.std.specs.Hash.DefaultHasher.{initial, write_word, round, finish}
use Rattle.ve_base.specs.Digest.{attr_input, digest_of}
use Rattle.ve_base.specs.Feed.{Feed, piece_size, after_piece, after_fault}
use Rattle.ve_base.specs.Fill.{Fill, after_write, after_failed_write, after_taking}
use Rattle.ve_base.specs.Names.{names}

-- six bytes, of which the first piece has at most two
abbrev source : Feed
source = record { left = codes "abcdef"; cuts = 2 ∷ []; fails = 1 ∷ []; calls = 0; faults = 0 }

first_piece : piece_size source 4 ≡ 2
first_piece = refl

after_first : after_piece source 4 ≡ record { left = codes "cdef"; cuts = []; fails = 1 ∷ []; calls = 1; faults = 0 }
after_first = refl

-- the call of number 1 fails, and the next one fills the room
second_fails : after_fault (after_piece source 4) ≡ record { left = codes "cdef"; cuts = []; fails = 1 ∷ []; calls = 2; faults = 1 }
second_fails = refl

third_fills : piece_size (after_fault (after_piece source 4)) 3 ≡ 3
third_fills = refl

last_piece : piece_size source 1 ≡ 1
last_piece = refl

abbrev sink : Fill
sink = record { held = codes "a"; free = 2; fails = []; calls = 7; faults = 0 }

takes_what_fits : after_write sink (codes "bcd") ≡ record { held = codes "abc"; free = 0; fails = []; calls = 8; faults = 0 }
takes_what_fits = refl

keeps_at_fault : after_failed_write sink ≡ record { held = codes "a"; free = 2; fails = []; calls = 8; faults = 1 }
keeps_at_fault = refl

takes_all : after_taking (record { held = []; free = 5; faults = 3 }) (codes "bcd") ≡ record { held = codes "bcd"; free = 2; faults = 3 }
takes_all = refl

names_in_order : names (record { name = codes "id"; value = codes "x" } ∷ record { name = codes "class"; value = [] } ∷ []) ≡ codes "id" ∷ codes "class" ∷ []
names_in_order = refl

-- an attribute feeds its name and its value, each with an end of its own
abbrev attr : Attr
attr = record { name = codes "id"; value = codes "x" }

feeds_both : attr_input attr ≡ encode_utf8_all (codes "id") ∷ (255 ∷ []) ∷ encode_utf8_all (codes "x") ∷ (255 ∷ []) ∷ []
feeds_both = refl

-- SipHash-1-3 of nothing, as Rust computes it
no_attributes : digest_of [] ≡ 0xd1fb_a762_150c_532c
unfolding initial write_word round finish
no_attributes = refl

-- shared or not, attributes may go to another thread
attrs_cross : IsSend the_row
attrs_cross = the_send

attrs_are_shared : IsSync the_row
attrs_are_shared = the_sync
