pub mod OverFiles
