-- Readings of a JSON value. None comes where the value is not well formed for it.
use Rattle.std.specs.Prelude.{ℕ, Bool, not, ◌&&◌, nat_le, nat_lt, if◌then◌else◌, List, [], ◌∷◌, length, bytes_eq, chars, Option, Some, None, option_map, option_and_then}
use Rattle.std.specs.List.{list_any}
use Rattle.std.specs.Str.{is_utf8}
use Rattle.serde_json.specs.Read.{read}
use Rattle.serde_json.specs.Data.{Data, null, Items, no_items, item, Members}
use Rattle.serde_json.specs.Find.{get_member, as_number, as_str, as_array, as_u64}
use Rattle.model_spelling.specs.Grammar.{is_barred}

-- a line as JSON; one that is not UTF-8 is none
abbrev pub line_json : List ℕ → Option Data
line_json line = if is_utf8 line then read line else None

-- a well formed value is read on
infixl 10 ◌>>=◌
abbrev pub ◌>>=◌ : {A B : Type 0} → Option A → (A → Option B) → Option B
o >>= read = option_and_then read o

-- a value that passes the test is well formed
abbrev pub such_that : {A : Type 0} → (A → Bool) → Option A → Option A
such_that test None = None
such_that test (Some x) = if test x then Some x else None

-- written as digits, without sign, fraction or exponent
abbrev pub digits_in : Data → Option ℕ
digits_in json = option_and_then as_u64 (as_number json)

-- below 2^32
abbrev pub number_in : Data → Option ℕ
number_in json = such_that (λ n. nat_lt n 4294967296) (digits_in json)

-- the same of a number that may be absent
abbrev pub some_number_in : Data → Option (Option ℕ)
some_number_in json = option_map (λ n. Some n) (number_in json)

abbrev pub number_between : ℕ → ℕ → Data → Option ℕ
number_between least most json = such_that (λ n. nat_le least n && nat_le n most) (digits_in json)

-- the text of a page or a fragment: any characters
abbrev pub source_in : Data → Option (List ℕ)
source_in json = option_map chars (as_str json)

-- characters other than U+0000 and U+000D
abbrev pub text_in : Data → Option (List ℕ)
text_in json = option_map chars (such_that (λ bytes. not (list_any is_barred bytes)) (as_str json))

abbrev pub is_some_text : List ℕ → Bool
is_some_text text = nat_lt 0 (length text)

-- a text, or `null`, which stands for none
abbrev pub text_or_null_in : Data → Option (Option (List ℕ))
text_or_null_in null = Some None
text_or_null_in json = option_map (λ text. Some text) (text_in json)

-- the meaning of the word, in the first row that has it
abbrev pub meant_by : {A : Type 0} → List (List ℕ × A) → List ℕ → Option A
meant_by [] word = None
meant_by (row ∷ rows) word = if bytes_eq row.0 word then Some row.1 else meant_by rows word

-- one of these words
abbrev pub word_in : {A : Type 0} → List (List ℕ × A) → Data → Option A
word_in rows json = option_and_then (meant_by rows) (as_str json)

-- the values of a list
abbrev pub json_values : Items → List Data
json_values no_items = []
json_values (item json items) = json ∷ json_values items

-- all of them, where each is well formed
abbrev pub all_read : {A : Type 0} → (Data → Option A) → List Data → Option (List A)
all_read read [] = Some []
all_read read (json ∷ more) = option_and_then (λ x. option_map (λ xs. x ∷ xs) (all_read read more)) (read json)

abbrev pub list_in : {A : Type 0} → (Data → Option A) → Data → Option (List A)
list_in read json = option_and_then (λ items. all_read read (json_values items)) (as_array json)

abbrev pub two_of : List Data → Option (Data × Data)
two_of (one ∷ other ∷ []) = Some (one, other)
two_of _ = None

-- a list of exactly two
abbrev pub pair_in : Data → Option (Data × Data)
pair_in json = option_and_then (λ items. two_of (json_values items)) (as_array json)

-- a member that has to be there
abbrev pub member_in : {A : Type 0} → List ℕ → (Data → Option A) → Members → Option A
member_in name read members = option_and_then read (get_member name members)

-- the default of an absent member
abbrev pub read_or : {A : Type 0} → A → (Data → Option A) → Option Data → Option A
read_or default read None = Some default
read_or default read (Some json) = read json

-- a member that may be absent
abbrev pub member_or : {A : Type 0} → List ℕ → A → (Data → Option A) → Members → Option A
member_or name default read members = read_or default read (get_member name members)
