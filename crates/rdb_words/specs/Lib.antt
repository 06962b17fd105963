pub mod Grammar
pub mod SimpleCommand
