-- The page that lines open is UTF-8: its text is a string of a line. So what is said of pages that
-- are UTF-8 holds of each.
use Rattle.std.proofs.Common.{◌≡◌, ℕ, Bool, true, false, if◌then◌else◌, List, [], ◌∷◌, Option, Some, None, Result, Ok, Err, bytes_eq, refl, sym, subst, IsUtf8, Ordering}
use Rattle.std.specs.Prelude.{codes, map, length, nat_lt, encode_utf8_all, option_and_then, IfSome, IfOk}
use Rattle.std.specs.Str.{all_scalars}
use Rattle.std.specs.Ordering.{nat_cmp, match_ordering}
use Rattle.std.specs.declared.cmp.Ordering.TheVariants.{Less, Equal, Greater}
use Rattle.std.specs.Cmp.Lexicographic.{slice_cmp}
use Rattle.std.proofs.lemmas.Str.{scalars-chars}
use Rattle.ve_base.specs.Limits.{max_page, max_items, max_values, max_sites}
use Rattle.serde_json.specs.Data.{Data, null, boolean, number, string, array, object, Members, no_members, member}
use Rattle.serde_json.specs.Find.{get_member, as_str}
use Rattle.model_spelling.specs.declared.scan_fault.ScanFault.{ScanFault}
use Rattle.model_spelling.specs.Faults.{fault_of}
use Rattle.model_spelling.specs.Parsed.{forest_of}
use Rattle.model_spelling.specs.Page.{body_at, fault_in_page}
use Rattle.model_page.specs.PageItems.{Opened, page_opened, page_made, slice, or_nothing}
use Rattle.model_page.specs.OpenPage.{OpenFault, PageTooLong, BadPage, OverLimit, TooManyItems, StoreFull, values_of, limit_in, if_small, if_within, read_body, read_page}
use Rattle.model_site.specs.Session.{Session}
use Rattle.model_world.specs.declared.command.Request.{Request}
use Rattle.model_world.specs.declared.command.Command.{Command}
use Rattle.model_world.specs.declared.command.Command.TheVariants.{OpenPage, Ask}
use Rattle.model_world.specs.declared.field.Field.{Field}
use Rattle.model_world.specs.declared.field.Field.TheVariants as field
use Rattle.model_world.specs.Names.{field_name}
use Rattle.model_world.specs.Values.{line_json, source_in, meant_by, word_in, number_in, number_between}
use Rattle.model_world.specs.Members as members
use Rattle.model_world.specs.Members.{Reader, required_member, optional_member}
use Rattle.model_world.specs.Changes.{reader_in}
use Rattle.model_world.specs.Commands.{requests, ask_read, open_read, commands, or_bad_command, read_by, command_in, command_or_refusal, command}
use Rattle.model_world.specs.Refusals.{refused_as, open_refusal}
use Rattle.model_world.specs.Opening.{open_page}
use Rattle.model_world_law.specs.Reached.{IsReached, WorldReached}
use Rattle.model_world_law.proofs.ChangeLemmas.{pages_are_sound}
use Rattle.model_world_law.proofs.ChangeStand.{pages_stand}
use Rattle.model_world_law.proofs.ReachLemmas as reach
use Rattle.model_page_law.specs.Strings.{AllStrings, AllInMembers}
use Rattle.model_line_law.specs.Pages.{OpenedIsUtf8, OpenedItemsStand, ItemsStandAfterLines, UneditedPageIsWrittenBack}
use Rattle.model_line_law.proofs.LineLemmas.{line_utf8}

-- ---- the text of a page that a line opens

found_by : (o : Ordering) (e : Data) (later : Option Data) → AllStrings IsUtf8 e → IfSome later (AllStrings IsUtf8)
    → IfSome (match_ordering o later (Some e) later) (AllStrings IsUtf8)
found_by Less e later u v = v
found_by Equal e later u v = u
found_by Greater e later u v = v

found_utf8 : (name : List ℕ) (ms : Members) → AllInMembers IsUtf8 ms → IfSome (get_member name ms) (AllStrings IsUtf8)
found_utf8 name no_members u = tt
found_utf8 name (member l e ms) u = found_by (slice_cmp nat_cmp name l) e (get_member name ms) u.1 (found_utf8 name ms u.2)

-- each is the code of a character
abbrev AreChars : List ℕ → Type 0
AreChars text = all_scalars text ≡ true

source_chars : (json : Data) → AllStrings IsUtf8 json → IfSome (source_in json) AreChars
source_chars null u = tt
source_chars (boolean b) u = tt
source_chars (number n) u = tt
source_chars (string s) u = scalars-chars s u
source_chars (array ds) u = tt
source_chars (object ms) u = tt

abbrev OpensChars : Command → Type 0
OpensChars (OpenPage text sites) = AreChars text
OpensChars (Ask asked site) = Unit {0}

abbrev opening : Result ℕ Field → List ℕ → Result Command Field
opening sites text = members.◌>>=◌ sites (λ n. Ok (OpenPage text n))

opening_chars : (sites : Result ℕ Field) (text : List ℕ) → AreChars text → IfOk (opening sites text) OpensChars
opening_chars (Ok n) text h = h
opening_chars (Err e) text h = tt

opening_by : (o : Option Data) (sites : Result ℕ Field) → IfSome o (AllStrings IsUtf8)
    → IfOk (members.◌>>=◌ (members.or_bad field.Page (option_and_then source_in o)) (opening sites)) OpensChars
opening_by None sites u = tt
opening_by (Some json) sites u = by (source_in json) (source_chars json u)
  where
    by : (o : Option (List ℕ)) → IfSome o AreChars → IfOk (members.◌>>=◌ (members.or_bad field.Page o) (opening sites)) OpensChars
    by None h = tt
    by (Some text) h = opening_chars sites text h

open_chars : (ms : Members) → AllInMembers IsUtf8 ms → IfOk (open_read ms) OpensChars
open_chars ms u =
    opening_by (get_member (field_name field.Page) ms) (optional_member field.Sites 1 (number_between 1 max_sites) ms) (found_utf8 (field_name field.Page) ms u)

abbrev asking : List (List ℕ × Reader Request) → List (List ℕ × Reader Command)
asking rows = map (λ (row : List ℕ × Reader Request). (row.0, ask_read row.1)) rows

-- no other command opens a page
asked_by : (asked : Result Request Field) (site : Result ℕ Field)
    → IfOk {E = Field} (members.◌>>=◌ asked (λ a. members.◌>>=◌ site (λ n. Ok (Ask a n)))) OpensChars
asked_by (Err e) site = tt
asked_by (Ok a) (Err e) = tt
asked_by (Ok a) (Ok n) = tt

abbrev ReadsChars : Members → Reader Command → Type 0
ReadsChars ms read = IfOk (read ms) OpensChars

row_by : (b : Bool) (read : Reader Command) (later : Option (Reader Command)) (ms : Members) → ReadsChars ms read → IfSome later (ReadsChars ms)
    → IfSome (if b then Some read else later) (ReadsChars ms)
row_by true read later ms h k = h
row_by false read later ms h k = k

asks_chars : (rows : List (List ℕ × Reader Request)) (word : List ℕ) (ms : Members) → IfSome (meant_by (asking rows) word) (ReadsChars ms)
asks_chars [] word ms = tt
asks_chars (row ∷ rows) word ms =
    row_by (bytes_eq row.0 word) (ask_read row.1) (meant_by (asking rows) word) ms
    (asked_by (row.1 ms) (optional_member field.Site 0 number_in ms)) (asks_chars rows word ms)

meant_chars : (word : List ℕ) (ms : Members) → AllInMembers IsUtf8 ms → IfSome (meant_by commands word) (ReadsChars ms)
meant_chars word ms u = row_by (bytes_eq (codes "open") word) open_read (meant_by (asking requests) word) ms (open_chars ms u) (asks_chars requests word ms)

and_then : {A B : Type 0} (P : B → Type 0) (f : A → Option B) (o : Option A) → ((x : A) → IfSome (f x) P) → IfSome (option_and_then f o) P
and_then P f None h = tt
and_then P f (Some x) h = h x

reader_chars : (ms : Members) → AllInMembers IsUtf8 ms → IfSome (reader_in commands ms) (ReadsChars ms)
reader_chars ms u =
    and_then (ReadsChars ms) (word_in commands) (get_member (field_name field.Do) ms)
    (λ json. and_then (ReadsChars ms) (meant_by commands) (as_str json) (λ word. meant_chars word ms u))

read_chars : (o : Option (Reader Command)) (ms : Members) → IfSome o (ReadsChars ms) → IfOk (read_by o ms) OpensChars
read_chars None ms h = tt
read_chars (Some read) ms h = by (read ms) h
  where
    by : (r : Result Command Field) → IfOk r OpensChars → IfOk (or_bad_command r) OpensChars
    by (Ok c) k = k
    by (Err e) k = tt

json_chars : (json : Data) → AllStrings IsUtf8 json → IfOk (command_in json) OpensChars
json_chars null u = tt
json_chars (boolean b) u = tt
json_chars (number n) u = tt
json_chars (string s) u = tt
json_chars (array ds) u = tt
json_chars (object ms) u = read_chars (reader_in commands ms) ms (reader_chars ms u)

line_chars : (o : Option Data) → IfSome o (AllStrings IsUtf8) → IfOk (command_or_refusal o) OpensChars
line_chars None u = tt
line_chars (Some json) u = json_chars json u

command_chars : (line : List ℕ) (text : List ℕ) (sites : ℕ) → command line ≡ Ok (OpenPage text sites) → AreChars text
command_chars line text sites e = subst (λ r. IfOk r OpensChars) e (line_chars (line_json line) (line_utf8 line))

-- ---- the page that is opened

abbrev HasPage : {E : Type 0} → List ℕ → Result Opened E → Type 0
HasPage page r = IfOk r (λ o. o.page ≡ page)

small_page : (page : List ℕ) (o : Opened) → o.page ≡ page → HasPage page (if_small o)
small_page page o h = by (nat_lt max_items (length o.items)) (nat_lt max_values (length (values_of o)))
  where
    by : (a b : Bool) → HasPage page (if a then Err (TooManyItems (length o.items)) else if b then Err StoreFull else Ok o)
    by true b = tt
    by false true = tt
    by false false = h

within_page : (page : List ℕ) (o : Opened) → o.page ≡ page → HasPage page (if_within o)
within_page page o h =
    elim (limit_in o) as (λ l. HasPage page (elim l [ Some limit ↦ Err (OverLimit limit) | None ↦ if_small o ]))
    [ Some limit ↦ tt | None ↦ small_page page o h ]

body_page : (page : List ℕ) (body : Result (ℕ × ℕ) ScanFault) → HasPage page (read_body page body)
body_page page (Err f) = tt
body_page page (Ok body) =
    let text = slice page body.0 body.1 in
    let made = page_opened page (record { from = body.0; to = body.1 }) (page_made body.0 (or_nothing (forest_of text))) in
    elim (fault_of text) as (λ f. HasPage page (elim f [ Some x ↦ Err (BadPage (fault_in_page body.0 x)) | None ↦ if_within made ]))
    [ Some x ↦ tt | None ↦ within_page page made refl ]

read_page_is : (page : List ℕ) → HasPage page (read_page page)
read_page_is page =
    elim (nat_lt max_page (length page)) as (λ b. HasPage page (elim b [ true ↦ Err (PageTooLong (length page)) | false ↦ read_body page (body_at page) ]))
    [ true ↦ tt | false ↦ body_page page (body_at page) ]

refused_page : (page : List ℕ) (r : Result Opened OpenFault) → HasPage page r → HasPage page (refused_as open_refusal r)
refused_page page (Ok o) h = h
refused_page page (Err f) h = tt

-- its bytes are those of the text
opened_page_is : (text : List ℕ) (o : Opened) → open_page text ≡ Ok o → o.page ≡ encode_utf8_all text
opened_page_is text o e =
    let bytes = encode_utf8_all text in
    subst (HasPage bytes) e (refused_page bytes (read_page bytes) (read_page_is bytes))

reached_utf8 : (lines : List (List ℕ)) (page : Opened) (w : Session) → IsReached lines page w → IsUtf8 page.page
reached_utf8 lines page w r = subst IsUtf8 (sym (opened_page_is r.text page r.opened)) (r.text, (command_chars r.line r.text r.sites r.asked, refl))

pub opened_is_utf8 : OpenedIsUtf8
opened_is_utf8 lines page w h = reached_utf8 lines page w (subst (WorldReached lines) h (reach.every_world_is_reached lines))

pub opened_items_stand : OpenedItemsStand
opened_items_stand lines page w h =
    let reached = subst (WorldReached lines) h (reach.every_world_is_reached lines) in
    (pages_are_sound reached.text page reached.opened, pages_stand reached.text page (opened_is_utf8 lines page w h) reached.opened)

pub every_item_stands : ItemsStandAfterLines
every_item_stands lines page w k m h e = reach.every_item_stands lines page w k m h e (opened_is_utf8 lines page w h)

pub unedited_is_written_back : UneditedPageIsWrittenBack
unedited_is_written_back lines page w k m h e same = reach.unedited_is_written_back lines page w k m h e (opened_is_utf8 lines page w h) same
