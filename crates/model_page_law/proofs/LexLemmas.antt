-- Each string and each key among the tokens of a text that is UTF-8 is UTF-8.
use Rattle.std.proofs.Common.{◌≡◌, ℕ, Bool, true, false, cond, ◌&&◌, List, [], ◌∷◌, ◌++◌, length, take, drop, Option, Some, None, refl, sym, subst, append_assoc, arith, eqb-true, ◌-◌, IsUtf8}
use Rattle.std.specs.Prelude.{◌==◌, nat_eq, IfSome}
use Rattle.std.specs.List.{starts_with}
use Rattle.json.specs.Ascii as ascii
use Rattle.json.specs.Token.{Token, begin_object, end_object, begin_array, end_array, key, string, number, boolean, null, bad}
use Rattle.json.specs.Text.{content, plain}
use Rattle.json.specs.Word.{is_operator, is_space, head, ends_word, after_number, number_before, literal, word}
use Rattle.json.specs.Lex.{Lexeme, token, comma, colon, Class, quote, backslash, operator, space, other, class, operator_lexeme, string_token, Mode, between, in_word, in_string, in_escape, lex_byte, lex, Place, fresh, after_value, after_comma, after_key, begins_colon, may_begin, may_close, if_allowed, place_token, punctuate, tokens}
use Rattle.model_page_law.proofs.StringLemmas.{after_ascii, content_utf8}

-- the text that a token has, if it is a string or a key
abbrev pub TokenUtf8 : Token → Type 0
TokenUtf8 begin_object = Unit {0}
TokenUtf8 end_object = Unit {0}
TokenUtf8 begin_array = Unit {0}
TokenUtf8 end_array = Unit {0}
TokenUtf8 (key s) = IsUtf8 s
TokenUtf8 (string s) = IsUtf8 s
TokenUtf8 (number s) = Unit {0}
TokenUtf8 (boolean b) = Unit {0}
TokenUtf8 null = Unit {0}
TokenUtf8 bad = Unit {0}

abbrev pub TokensUtf8 : List Token → Type 0
TokensUtf8 [] = Unit {0}
TokensUtf8 (t ∷ ts) = TokenUtf8 t × TokensUtf8 ts

abbrev LexemeUtf8 : Lexeme → Type 0
LexemeUtf8 (token t) = TokenUtf8 t
LexemeUtf8 comma = Unit {0}
LexemeUtf8 colon = Unit {0}

abbrev LexemesUtf8 : List Lexeme → Type 0
LexemesUtf8 [] = Unit {0}
LexemesUtf8 (l ∷ ls) = LexemeUtf8 l × LexemesUtf8 ls

-- ---- a lexeme

string_token_utf8 : (o : Option (List ℕ)) → IfSome o IsUtf8 → TokenUtf8 (string_token o)
string_token_utf8 None u = tt
string_token_utf8 (Some s) u = u

chosen : (c : Bool) (s t : Token) → TokenUtf8 s → TokenUtf8 t → TokenUtf8 (cond c s t)
chosen true s t u v = u
chosen false s t u v = v

number_utf8 : (text : List ℕ) (o : Option (List ℕ)) → TokenUtf8 (number_before text o)
number_utf8 text None = tt
number_utf8 text (Some rest) = chosen (ends_word rest) (number (take (length text - length rest) text)) bad tt tt

literal_utf8 : (name : List ℕ) (t : Token) (text : List ℕ) → TokenUtf8 t → TokenUtf8 (literal name t text)
literal_utf8 name t text u = chosen (starts_with nat_eq text name && ends_word (drop (length name) text)) t bad u tt

-- a word is no string
word_utf8 : (text : List ℕ) → TokenUtf8 (word text)
unfolding word
word_utf8 text =
    chosen (head text == ascii.lower_t) _ _ (literal_utf8 ascii.true_text (boolean true) text tt)
    (chosen (head text == ascii.lower_f) _ _ (literal_utf8 ascii.false_text (boolean false) text tt)
    (chosen (head text == ascii.lower_n) _ _ (literal_utf8 ascii.null_text null text tt) (number_utf8 text (after_number text))))

chosen_lexeme : (c : Bool) (l m : Lexeme) → LexemeUtf8 l → LexemeUtf8 m → LexemeUtf8 (cond c l m)
chosen_lexeme true l m u v = u
chosen_lexeme false l m u v = v

operator_utf8 : (x : ℕ) → LexemeUtf8 (operator_lexeme x)
operator_utf8 x =
    chosen_lexeme (x == ascii.open_brace) _ _ tt
    (chosen_lexeme (x == ascii.close_brace) _ _ tt
    (chosen_lexeme (x == ascii.open_bracket) _ _ tt
    (chosen_lexeme (x == ascii.close_bracket) _ _ tt (chosen_lexeme (x == ascii.comma) _ _ tt tt))))

-- ---- the lexemes

-- only a quote is of that class
abbrev IsQuote : Class → Type 0
IsQuote quote = Unit {0}
IsQuote backslash = ⊥
IsQuote operator = ⊥
IsQuote space = ⊥
IsQuote other = ⊥

quote_by : (x : ℕ) (q b o s : Bool) → (x == ascii.quote) ≡ q → IsQuote (cond q quote (cond b backslash (cond o operator (cond s space other)))) → x ≡ 34
quote_by x true b o s e h = eqb-true x 34 e
quote_by x false true o s e h = absurd h
quote_by x false false true s e h = absurd h
quote_by x false false false true e h = absurd h
quote_by x false false false false e h = absurd h

quote_is : (x : ℕ) → IsQuote (class x) → x ≡ 34
quote_is x h = quote_by x (x == ascii.quote) (x == ascii.backslash) (is_operator x) (is_space x) refl h

byte_utf8 : (m : Mode) (c : Class) (x : ℕ) (xs : List ℕ) (later : Mode → List Lexeme) → (IsQuote c → IsUtf8 xs)
    → ((next : Mode) → LexemesUtf8 (later next)) → LexemesUtf8 (lex_byte m c x xs later)
byte_utf8 between quote x xs later u more = (string_token_utf8 (content plain xs) (content_utf8 xs (u tt)), more in_string)
byte_utf8 between backslash x xs later u more = (tt, more in_word)
byte_utf8 between operator x xs later u more = (operator_utf8 x, more between)
byte_utf8 between space x xs later u more = more between
byte_utf8 between other x xs later u more = (word_utf8 (x ∷ xs), more in_word)
byte_utf8 in_word quote x xs later u more = more in_word
byte_utf8 in_word backslash x xs later u more = more in_word
byte_utf8 in_word operator x xs later u more = (operator_utf8 x, more between)
byte_utf8 in_word space x xs later u more = more between
byte_utf8 in_word other x xs later u more = more in_word
byte_utf8 in_string quote x xs later u more = more between
byte_utf8 in_string backslash x xs later u more = more in_escape
byte_utf8 in_string operator x xs later u more = more in_string
byte_utf8 in_string space x xs later u more = more in_string
byte_utf8 in_string other x xs later u more = more in_string
byte_utf8 in_escape c x xs later u more = more in_string

-- p is what was passed: a character may go on after it
lex_utf8 : (m : Mode) (p xs : List ℕ) → IsUtf8 (p ++ xs) → LexemesUtf8 (lex m xs)
unfolding lex
lex_utf8 m p [] u = tt
lex_utf8 m p (x ∷ xs) u =
    let after : IsQuote (class x) → IsUtf8 xs = λ h. after_ascii p x xs (omega (arith, quote_is x h)) u in
    byte_utf8 m (class x) x xs (λ next. lex next xs) after (λ next. lex_utf8 next (p ++ x ∷ []) xs (subst IsUtf8 (sym (append_assoc p (x ∷ []) xs)) u))

-- ---- the tokens

allowed_utf8 : (c : Bool) (t : Token) (later : Place → List Token) (next : Place) → TokenUtf8 t → ((place : Place) → TokensUtf8 (later place))
    → TokensUtf8 (if_allowed c t later next)
allowed_utf8 true t later next u more = (u, more next)
allowed_utf8 false t later next u more = (tt, tt)

placed_utf8 : (p : Place) (t : Token) (c : Bool) (later : Place → List Token) → TokenUtf8 t → ((place : Place) → TokensUtf8 (later place))
    → TokensUtf8 (place_token p t c later)
placed_utf8 p begin_object c later u more = allowed_utf8 (may_begin p) begin_object later fresh tt more
placed_utf8 p end_object c later u more = allowed_utf8 (may_close p) end_object later after_value tt more
placed_utf8 p begin_array c later u more = allowed_utf8 (may_begin p) begin_array later fresh tt more
placed_utf8 p end_array c later u more = allowed_utf8 (may_close p) end_array later after_value tt more
placed_utf8 p (key s) c later u more = (tt, tt)
placed_utf8 p (string s) true later u more = allowed_utf8 (may_begin p) (key s) later after_key u more
placed_utf8 p (string s) false later u more = allowed_utf8 (may_begin p) (string s) later after_value u more
placed_utf8 p (number s) c later u more = allowed_utf8 (may_begin p) (number s) later after_value tt more
placed_utf8 p (boolean b) c later u more = allowed_utf8 (may_begin p) (boolean b) later after_value tt more
placed_utf8 p null c later u more = allowed_utf8 (may_begin p) null later after_value tt more
placed_utf8 p bad c later u more = (tt, tt)

punctuated_utf8 : (p : Place) (ls : List Lexeme) → LexemesUtf8 ls → TokensUtf8 (punctuate p ls)
unfolding punctuate
punctuated_utf8 fresh [] u = tt
punctuated_utf8 after_value [] u = tt
punctuated_utf8 after_comma [] u = (tt, tt)
punctuated_utf8 after_key [] u = (tt, tt)
punctuated_utf8 p (token t ∷ ls) u = placed_utf8 p t (begins_colon ls) (λ next. punctuate next ls) u.0 (λ next. punctuated_utf8 next ls u.1)
punctuated_utf8 fresh (comma ∷ ls) u = (tt, tt)
punctuated_utf8 after_value (comma ∷ ls) u = punctuated_utf8 after_comma ls u.1
punctuated_utf8 after_comma (comma ∷ ls) u = (tt, tt)
punctuated_utf8 after_key (comma ∷ ls) u = (tt, tt)
punctuated_utf8 fresh (colon ∷ ls) u = (tt, tt)
punctuated_utf8 after_value (colon ∷ ls) u = (tt, tt)
punctuated_utf8 after_comma (colon ∷ ls) u = (tt, tt)
punctuated_utf8 after_key (colon ∷ ls) u = punctuated_utf8 fresh ls u.1

pub tokens_utf8 : (text : List ℕ) → IsUtf8 text → TokensUtf8 (tokens text)
tokens_utf8 text u = punctuated_utf8 fresh (lex between text) (lex_utf8 between [] text u)
