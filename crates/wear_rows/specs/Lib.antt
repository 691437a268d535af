pub mod WearSheet
