pub mod AtMostOne
pub mod GridOrder
pub mod LadderOrder
pub mod ProductParts
pub mod RungPieces
pub mod Source
