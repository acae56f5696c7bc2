pub mod AttributeEnds
