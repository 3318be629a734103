pub mod RelinkLemmas
pub mod ArenaLemmas
pub mod LeadLemmas
pub mod WriteLemmas
pub mod ChangeLemmas
pub mod StackLemmas
pub mod PlanLemmas
pub mod ReadyLemmas
pub mod FreedLemmas
pub mod WorkLemmas
pub mod TokenLemmas
pub mod FreeLemmas
pub mod GrowLemmas
pub mod LevelLemmas
pub mod SpelledLemmas
pub mod AloneLemmas
pub mod RepairLemmas
pub mod ScriptLemmas
pub mod OldSideLemmas
pub mod SidesLemma
pub mod ShapeLemmas
pub mod SizeLemmas
pub mod SizingLemmas
pub mod ScriptSignsLemmas
pub mod WalkedLemmas
pub mod CountLemmas
pub mod NestedLemmas
pub mod ResizedLemmas
pub mod LengthLemmas
pub mod MadeLemmas
pub mod InRoundsLemmas
pub mod SpotLemmas
pub mod RoundLemmas
pub mod CursorLemmas
pub mod StartLemmas
pub mod BegunLemmas
pub mod ActLemmas
pub mod ChangedLemmas
pub mod NumberLemmas
pub mod RowLemmas
pub mod EndingLemmas
pub mod SizesRightLemmas
pub mod WholeLemmas
pub mod PieceLemmas
pub mod PlaceLemmas
pub mod TracedLemmas
pub mod StandLemmas
pub mod MovedLemmas
pub mod SourceLemmas
pub mod MatchLemmas
pub mod NumberedLemmas
pub mod MatchingLemmas
pub mod ChargeLemmas
pub mod ChargedLemmas
pub mod LengthCostLemmas
pub mod BoundLemmas
pub mod BeginningLemmas
pub mod OutsideLemmas
pub mod CursorsLemmas
pub mod MakeLemmas
pub mod ReaderLemmas
pub mod SupplyLemmas
pub mod CourseLemmas
pub mod KeptLemmas
pub mod PassedLemmas
pub mod ComeLemmas
pub mod OpsLemmas
pub mod ReadEndsLemmas
pub mod SortLemmas
pub mod RangeLemmas
pub mod SameNodesLemmas
pub mod UnchangedLemmas
pub mod MendingLemmas
pub mod FreshLemmas
mod ScriptExamples
mod UndoneLemmas
mod MayReadLemmas
pub mod SceneLemmas
mod AtPlaceLemmas
mod ActsOfLemmas
mod SignCountLemmas
mod OpActsLemmas
pub mod CanPlanLemmas
pub mod AllActsLemmas
pub mod PutsLemmas
pub mod PieceSignsLemmas
pub mod ChangeOfLemmas
mod RelinkedLemmas
mod SceneOfLemmas
mod PartPieceLemmas
mod PartLemmas
mod FitLemmas
mod NewNodeLemmas
mod CarriedWritesLemmas
mod CarriedLinksLemmas
mod CarriedLabelsLemmas
mod CarriedOutLemmas
pub mod CarriedLemmas
pub mod CutNodesLemmas
mod MakesLemmas
mod StoppedLemmas
pub mod PlannedAsLemmas
pub mod NamesLiveLemmas
