mod Traces
mod Examples
