pub mod Complaint
