pub mod Ring
