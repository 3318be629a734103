-- Why a page or a fragment isn't read: the refusal that the fault of its text is.
use Rattle.model_world.specs.declared.refusal.HtmlWord.TheVariants as word
use Rattle.model_world.specs.declared.refusal.Refusal.TheVariants as refusal
use Rattle.ve_html_tree.specs.declared.fault.HtmlFault.{HtmlFault}
use Rattle.ve_html_tree.specs.declared.fault.HtmlFault.TheVariants as html
use Rattle.ve_read.specs.declared.fragments.FragmentFault.{FragmentFault}
use Rattle.ve_read.specs.declared.fragments.FragmentFault.TheVariants as fragment
use Rattle.ve_changes.specs.declared.faults.ChangeStop.{ChangeStop}
use Rattle.ve_changes.specs.declared.faults.ChangeStop.TheVariants as stop

abbrev pub html_stop : HtmlFault → ChangeStop
html_stop (html.Scan f) = stop.Refused (refusal.Html (word.Scan f.what) f.at)
html_stop (html.Mismatched at) = stop.Refused (refusal.Html word.Mismatched at)
html_stop (html.Unclosed at) = stop.Refused (refusal.Html word.Unclosed at)
html_stop (html.Stray at) = stop.Refused (refusal.Html word.Stray at)
html_stop (html.TooDeep at) = stop.Refused (refusal.Html word.TooDeep at)
html_stop html.Memory = stop.Memory

abbrev pub fragment_stop : FragmentFault → ChangeStop
fragment_stop (fragment.Html f) = html_stop f
fragment_stop (fragment.TooManyMarks at) = stop.Refused (refusal.TooManyMarks at)
fragment_stop fragment.Memory = stop.Memory
