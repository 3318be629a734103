-- Answers of the reader, as the definitions have it.
use Rattle.std.specs.Prelude.{◌≡◌, List, Option, Some, None, Result, Ok, Err}
use Rattle.model_spelling.specs.Faults as g
use Rattle.ve_html_tree.specs.declared.fault.HtmlFault.{HtmlFault}
use Rattle.ve_html_tree.specs.declared.fault.HtmlFault.TheVariants as lent

-- An answer that is the first fault, where it isn't a want of memory.
abbrev pub IsFirstFault : HtmlFault → Option g.ForestFault → Type 0
IsFirstFault (lent.Scan f) first = first ≡ Some (g.Scan f)
IsFirstFault (lent.Mismatched at) first = first ≡ Some (g.Mismatched at)
IsFirstFault (lent.Unclosed at) first = first ≡ Some (g.Unclosed at)
IsFirstFault (lent.Stray at) first = first ≡ Some (g.Stray at)
IsFirstFault (lent.TooDeep at) first = first ≡ Some (g.TooDeep at)
IsFirstFault lent.Memory first = Unit {0}

-- the fault that a step met
abbrev pub fault_met : {A : Type 0} → Result A g.ForestFault → Option g.ForestFault
fault_met (Ok x) = None
fault_met (Err f) = Some f

-- A step went on to these open elements, or it met its fault.
abbrev pub StepsTo : {A : Type 0} → Result A HtmlFault → List g.OpenElement → Result (List g.OpenElement) g.ForestFault → Type 0
StepsTo (Ok x) os read = read ≡ Ok os
StepsTo (Err e) os read = IsFirstFault e (fault_met read)

-- the text may end, or it has this fault
abbrev pub Ends : {A : Type 0} → Result A HtmlFault → Option g.ForestFault → Type 0
Ends (Ok x) first = first ≡ None
Ends (Err e) first = IsFirstFault e first
