pub mod ListLaws
pub mod SpanLaws
pub mod HandLaws
pub mod NumberLaws
