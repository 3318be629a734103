-- The mode of a scanner, as its contract sees it: what it waits for.
use Rattle.ve_html_scan.specs.declared.scanner.ScanMode.{ScanMode}
use Rattle.ve_html_scan.specs.declared.scanner.ScanMode.TheVariants as lent
use Rattle.model_spelling.specs.Reading as g

abbrev pub shown_mode : ScanMode → g.Mode
shown_mode lent.Between = g.Between
shown_mode (lent.After name) = g.After name.now
shown_mode (lent.Failed f) = g.Failed f
