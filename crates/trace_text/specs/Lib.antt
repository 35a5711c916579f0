pub mod TracedJson
