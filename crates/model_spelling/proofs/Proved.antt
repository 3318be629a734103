-- The laws.
use Rattle.std.proofs.Common.{◌≡◌, ℕ, List, Some, sym, ap, ◌∙◌, arith}
use Rattle.model_spelling.specs.Tokens.{tokens_of}
use Rattle.model_spelling.specs.Forest.{Forest, Spells}
use Rattle.model_spelling.specs.Faults.{fault_of}
use Rattle.model_spelling.specs.Parsed.{ending, forest_of}
use Rattle.model_spelling.specs.Laws.{BodyInside, PartsAreThePage, BodyIsFound, BodyIsOnly}
use Rattle.model_spelling.specs.Canonical.{WritesRight, CanWrite}
use Rattle.model_spelling.specs.Standing.{FaultStands, UnclosedGoes, LastsOrMayGo, CutReferenceGoes, CutDoctypeGoes}
use Rattle.model_spelling.specs.Utf8.{DecodesUtf8, ForestUtf8}
use Rattle.model_spelling.specs.Laws.{ReadIsSpelled, SpelledIsRead, RawReadIsSpelled, RawSpelledIsRead, EmptyRawIsNoToken, FaultlessIsSpelled, SpelledIsFaultless, OneForestSpells, SpellingIsReadBack, ReadForestSpells}
use Rattle.model_spelling.proofs.Only as only
use Rattle.model_spelling.proofs.FoundTokens as tokens
use Rattle.model_spelling.proofs.Back as back
use Rattle.model_spelling.proofs.Right as right
use Rattle.model_spelling.proofs.Utf as utf
use Rattle.model_spelling.proofs.BodyPlace as body
use Rattle.model_spelling.proofs.BodyOnly as only_body
use Rattle.model_spelling.proofs.Escape as escape
use Rattle.model_spelling.proofs.CanWrite as canwrite
use Rattle.model_spelling.proofs.StaysTokens as standing
use Rattle.model_spelling.proofs.CleanTokens as clean
use Rattle.model_spelling.proofs.Goes as going

pub law_token_found : ReadIsSpelled
law_token_found at text t to e = tokens.token_found at text t to e

pub law_token_only : SpelledIsRead
law_token_only at t rest e f = only.token_only at t rest e f

pub law_raw_found : RawReadIsSpelled
law_raw_found at name text t to n e = tokens.raw_found at name text t to n e

pub law_raw_only : RawSpelledIsRead
law_raw_only at name b bs rest e = only.raw_only at name b bs rest e

pub law_raw_none : EmptyRawIsNoToken
law_raw_none at name rest e = only.raw_none at name rest e

pub law_found : FaultlessIsSpelled
law_found text e = let m = right.made_of_tokens text e in ((ending ((tokens_of text).tokens)).here, record { allowed = m.1; text_is = sym m.0 })

read_as : (text : List ℕ) (f : Forest) → Spells text f → forest_of text ≡ Some f
read_as text f s = ap forest_of s.text_is ∙ back.reads_back 200 f (omega arith) s.allowed

pub law_only : SpelledIsFaultless
law_only text f s = (ap fault_of s.text_is ∙ back.no_fault f s.allowed, read_as text f s)

some_same : (f g : Forest) → Some f ≡ Some g → f ≡ g
some_same f g e = cc

pub law_unique : OneForestSpells
law_unique text f g s t = some_same f g (sym (read_as text f s) ∙ read_as text g t)

pub law_reads_back : SpellingIsReadBack
law_reads_back room f le e = back.reads_back room f le e

pub law_reads_right : ReadForestSpells
law_reads_right text f e = right.reads_right text f e

pub law_fault_stands : FaultStands
law_fault_stands text more f e s = standing.fault_stands text more f e s

pub law_writes_right : WritesRight
law_writes_right room d le e = escape.writes_right room d le e

pub law_can_write : CanWrite
law_can_write room f e = canwrite.can_write f room e

pub law_decodes_utf8 : DecodesUtf8
law_decodes_utf8 text u = utf.decodes_utf8 text u

pub law_forest_utf8 : ForestUtf8
law_forest_utf8 room f e u = utf.nodes_utf8 room f e u

pub law_body_inside : BodyInside
law_body_inside page from to e = body.body_inside page from to e

pub law_unclosed_goes : UnclosedGoes
law_unclosed_goes text f h e = clean.unclosed_goes text f h e

pub law_parts_are_the_page : PartsAreThePage
law_parts_are_the_page page p e = body.parts_are_the_page page p e

pub law_body_is_found : BodyIsFound
law_body_is_found page from to whole e = body.body_is_found page from to whole e

pub law_stands_or_goes : LastsOrMayGo
law_stands_or_goes text f e = going.stands_or_goes text f e

pub law_cut_reference_goes : CutReferenceGoes
law_cut_reference_goes text at e s = going.cut_reference_goes text at e s

pub law_cut_doctype_goes : CutDoctypeGoes
law_cut_doctype_goes text at e s = going.cut_doctype_goes text at e s

pub law_body_is_only : BodyIsOnly
law_body_is_only page from to whole b = only_body.body_only page from to whole b
