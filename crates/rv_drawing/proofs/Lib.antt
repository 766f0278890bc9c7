mod FewerMarks
mod SvgRows
