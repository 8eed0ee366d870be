mod ChainLaws
mod DropMeasures
