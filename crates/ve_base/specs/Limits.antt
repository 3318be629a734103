-- The numbers of the product, each under its name. Definitions and clauses cite these names;
-- `src/limits.rt` has the same numbers for the code.
use Rattle.std.specs.Prelude.{ℕ, ◌^◌}

-- how many bytes a page may have
abbrev pub max_page : ℕ
max_page = 4194304

-- how many elements may be open at one position of a page, void ones counted
abbrev pub max_open_elements : ℕ
max_open_elements = 200

-- how many attributes a tag of a page may have
abbrev pub max_attributes : ℕ
max_attributes = 256

-- how many kinds of nodes may be open at one position of a list
abbrev pub max_open_kinds : ℕ
max_open_kinds = 100

-- how many marks an item may have
abbrev pub max_marks : ℕ
max_marks = 64

-- how many items a list may have after opening a page or after an edit
abbrev pub max_items : ℕ
max_items = 4194304

-- how many values a store may have after opening a page or after an edit
abbrev pub max_values : ℕ
max_values = 1048576

-- the most that all lengths of a transaction's operations may add up to
abbrev pub max_total_length : ℕ
max_total_length = 2 ^ 60

-- how many rows and how many columns a cell of a table may span
abbrev pub max_row_span : ℕ
max_row_span = 65534

abbrev pub max_column_span : ℕ
max_column_span = 1000

-- how many bytes a line of a script may have, without its newline
abbrev pub max_line : ℕ
max_line = 8388608

-- how many bytes a script may have
abbrev pub max_script : ℕ
max_script = 67108864

-- how many sites may edit one page
abbrev pub max_sites : ℕ
max_sites = 8

-- how many commands a batch may have
abbrev pub max_batch : ℕ
max_batch = 1000

-- how many items a block of the flat list may have, and how many it gets where it is made
abbrev pub max_block : ℕ
max_block = 512

abbrev pub filled_block : ℕ
filled_block = 448
