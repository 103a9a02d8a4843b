mod OpExamples
mod Examples
