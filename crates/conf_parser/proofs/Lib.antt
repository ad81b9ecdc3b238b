mod ConditionLoop
mod GroupLoop
mod Members
mod OptionLoop
mod Products
mod StatementLoop
