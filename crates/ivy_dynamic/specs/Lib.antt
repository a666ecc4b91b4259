pub mod stated
pub mod DynamicLaws
