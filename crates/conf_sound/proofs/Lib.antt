mod Finds
mod ReadingForms
mod ValueForms
mod ItemForms
mod RuleForms
mod NeighbourForms
mod EntryForms
mod StatementForms
mod Lists
mod FlatForms
mod WholeForms
mod Characters
mod TextRules
mod CutForms
mod SoundCuts
mod TokenForms
pub mod Whole
mod Totals
mod Sizes
mod ChoiceSizes
mod StatementCounts
mod GroupNames
mod GroupSizes
mod LimitForms
mod SettledLists
mod SettledNames
mod SettledKeys
mod SettledNeighbours
mod SettledRules
pub mod Settled
mod MacroCounts
mod CutCounts
mod TokenCounts
pub mod SetCounts
