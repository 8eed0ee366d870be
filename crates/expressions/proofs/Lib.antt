mod ChainLaws
pub mod ChainMeasures
pub mod FoldLaws
