pub mod TopValues
