mod StockLaws
mod WriteLaws
