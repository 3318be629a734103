-- Lists that agree at their beginning and at their end, and what is known of them then.
use Rattle.std.specs.Prelude.{◌≡◌, ◌≤◌, ◌-◌, List, length, take, drop}
use Rattle.ve_site.specs.declared.ends.Ends.{Ends}

-- so many items at the beginning of both lists are the same, and so many at the end of both
pub record AgreeAtEnds {A : Type 0} (e : Ends) (first now : List A) : Type 0 where
  pub prefix_there : e.prefix ≤ length first
  pub prefix_here : e.prefix ≤ length now
  pub prefix : take e.prefix now ≡ take e.prefix first
  pub suffix_there : e.suffix ≤ length first
  pub suffix_here : e.suffix ≤ length now
  pub suffix : drop (length now - e.suffix) now ≡ drop (length first - e.suffix) first
